-- `desks::shut` meets its contract. Assumes nothing.
use mathlib.Core.Path.{◌≡◌}
use Prim.Native.Nat.{◌≤◌}
use native.Mathlib.Omega.{arith}
use lib.ListN.{length, length-set}
use borrow.Author.Rules.{rules}
use Rattle.store.specs.Layout.{used}
use Rattle.store.proofs.Passing.{passed, header_long}
use Rattle.changes.proofs.Removal.{lent, back, removable, few_left, back_long, closed_now}
use Rattle.desks.proofs.shut.Goals as goal
use Rattle.desks.proofs.shut.Goals.{After-remove_desk-kept}

-- the records' part comes back as long as it was
part-long : (c : After-remove_desk-kept) → length c.remove_desk-kept.new.numbers ≡ length (lent c.args.store.now)
part-long c = search rules

few : (c : After-remove_desk-kept) → c.remove_desk-kept.result ≤ used c.args.store.now
few c =
    few_left c.args.store.now c.args.desk c.requires.0 c.requires.1 c.remove_desk-kept.new.numbers c.remove_desk-kept.result (part-long c) c.remove_desk-kept.ensures

long : (c : After-remove_desk-kept) → length (back c.args.store.now c.remove_desk-kept.new.numbers) ≡ length c.args.store.now
long c =
    back_long c.args.store.now c.args.desk c.requires.0 c.requires.1 c.remove_desk-kept.new.numbers c.remove_desk-kept.result (part-long c) c.remove_desk-kept.ensures

pub bounds-store-1 : goal.bounds-store-1
bounds-store-1 c = omega (arith, header_long c.args.store.now c.requires.0)

pub overflow_cast-used : goal.overflow_cast-used
overflow_cast-used c = omega (arith, c.type_inv.store 1)

pub slice_bounds-remove_desk-count : goal.slice_bounds-remove_desk-count
slice_bounds-remove_desk-count c = omega (arith, header_long c.args.store.now c.requires.0)

pub slice_bounds-remove_desk-start : goal.slice_bounds-remove_desk-start
slice_bounds-remove_desk-start c = omega (arith, header_long c.args.store.now c.requires.0)

pub remove_desk-kept-requires : goal.remove_desk-kept-requires
remove_desk-kept-requires c =
    removable c.args.store.now c.args.desk c.requires.0 c.requires.1

pub overflow_cast-store : goal.overflow_cast-store
overflow_cast-store c =
    let f = (passed c.args.store.now c.requires.0).framed in
    omega (arith, few (goal.at.overflow_cast-store c).After-remove_desk-kept, f.few, f.most)

pub bounds-store-1-2 : goal.bounds-store-1-2
bounds-store-1-2 c =
    omega (arith, long (goal.at.bounds-store-1-2 c).After-remove_desk-kept, header_long c.args.store.now c.requires.0)

pub bounds-store-desk : goal.bounds-store-desk
bounds-store-desk c =
    simp length-set (omega (arith, long (goal.at.bounds-store-desk c).After-remove_desk-kept, header_long c.args.store.now c.requires.0))

pub returns : goal.returns
returns c =
    let gone = c.remove_desk-kept in
    closed_now c.args.store.now c.args.desk c.requires.0 c.requires.1 gone.new.numbers gone.result (part-long (goal.at.returns c).After-remove_desk-kept) gone.ensures _ _ (omega arith) (omega arith)
