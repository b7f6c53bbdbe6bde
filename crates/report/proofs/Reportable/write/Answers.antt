-- `report::Reportable::write` meets its contract. Assumes nothing.
use Prim.Native.Nat.{ℕ, ◌-◌, ◌*◌}
use native.Mathlib.Omega.{arith}
use mathlib.Core.Path.{refl, subst}
use mathlib.Core.List.{List}
use lib.ListN.{length, take, drop}
use Rattle.numbers.specs.Limits.{row_width}
use Rattle.records.proofs.Lent.{tail_lent}
use Rattle.store.specs.Layout.{header_size, used}
use Rattle.listing.specs.Writing.{Listed}
use Rattle.report.proofs.Writing.{can_write, has_written}
use Rattle.report.proofs.ByValue.{sized, standing_lent}
use Rattle.report.proofs.Reportable.write.Goals as goal

pub slice_bounds-numbers-count : goal.slice_bounds-numbers-count
slice_bounds-numbers-count c = let h = sized c.args.self.now.store.now c.args.self.now.desk c.args.self.now.can in omega arith

pub slice_bounds-numbers-start : goal.slice_bounds-numbers-start
slice_bounds-numbers-start c = let h = sized c.args.self.now.store.now c.args.self.now.desk c.args.self.now.can in omega arith

pub invariant_of-write_rows : goal.invariant_of-write_rows
invariant_of-write_rows c = record { standing = standing_lent c.args.self.now.store.now c.args.self.now.desk c.args.self.now.can }

pub write_rows-requires : goal.write_rows-requires
write_rows-requires c =
    rw (tail_lent header_size c.args.self.now.store.now, tail_lent (row_width * c.args.place) c.args.sheet.now)
    (can_write c.args.self.now.store.now c.args.self.now.desk c.args.self.now.can c.args.place c.args.sheet.now c.requires.1 c.args.kept.now c.requires.0)

pub returns : goal.returns
returns c =
    let store = c.args.self.now.store.now in
    let sheet = c.args.sheet.now in
    let part = c.write_rows.new.sheet in
    has_written store c.args.self.now.desk c.args.self.now.can c.args.place sheet c.requires.1 part _
    (subst (λ (l : List ℕ). Listed c.args.self.now.desk (used store) l (drop (row_width * c.args.place) sheet) part) (tail_lent header_size store)
    (subst (λ (l : List ℕ). Listed c.args.self.now.desk (used store) (take (length store - header_size) (drop header_size store)) l part) (tail_lent (row_width * c.args.place) sheet) c.write_rows.ensures))
    refl
