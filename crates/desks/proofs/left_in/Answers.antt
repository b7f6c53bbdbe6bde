-- `desks::left_in` meets its contract: K less what the desks have reserved, which a sound store has room for. Assumes nothing.
use mathlib.Core.Path.{sym, ap, ◌∙◌}
use Prim.Native.Nat.{ℕ, ◌-◌}
use native.Mathlib.Omega.{arith}
use Rattle.store.specs.Layout.{room}
use Rattle.store.proofs.Passing.{header_long}
use Rattle.changes.proofs.Leaving.{left_is, room_small, reserves_fit}
use Rattle.desks.proofs.left_in.Goals as goal

pub bounds-store-0 : goal.bounds-store-0
bounds-store-0 c = omega (arith, header_long c.args.store.now c.requires)

pub overflow_cast-result : goal.overflow_cast-result
overflow_cast-result c = omega (arith, room_small c.args.store.now c.requires)

pub invariant_of-reserved : goal.invariant_of-reserved
invariant_of-reserved c = record { whole = header_long c.args.store.now c.requires }

pub overflow_sub-result : goal.overflow_sub-result
overflow_sub-result c =
    omega (arith, c.reserved.ensures, reserves_fit c.args.store.now c.requires)

pub overflow_cast-result-2 : goal.overflow_cast-result-2
overflow_cast-result-2 c = omega (arith, room_small c.args.store.now c.requires)

pub returns : goal.returns
returns c =
    let s = c.args.store.now in
    ap (λ (n : ℕ). room s - n) c.reserved.ensures ∙ sym (left_is s)
