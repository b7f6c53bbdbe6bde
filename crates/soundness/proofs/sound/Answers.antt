-- `soundness::sound` meets its contract: the frame, the pass over the part after the header, and the reservations. Assumes nothing.
use mathlib.Core.Bool.{true}
use mathlib.Core.Path.{◌≡◌, sym, ◌∙◌}
use native.Mathlib.Omega.{arith}
use Rattle.numbers.proofs.Tests.{of_true}
use Rattle.records.proofs.Lent.{tail_lent}
use Rattle.store.specs.Layout.{header_size, records_in}
use Rattle.store.specs.Sound.{frame_ok}
use Rattle.store.specs.Walk.{passb}
use Rattle.store.proofs.Whole.{Frame, frame, body_long, pass_is}
use Rattle.soundness.proofs.sound.Goals.{Else-not-frame_ok, After-pass}
use Rattle.soundness.proofs.sound.Goals as goal

known-test : (c : Else-not-frame_ok) → frame_ok c.args.store.now ≡ true
known-test c = sym c.frame_ok.ensures ∙ c.if-not-frame_ok.false

known : (c : Else-not-frame_ok) → Frame c.args.store.now
known c = frame c.args.store.now (of_true _ (known-test c))

-- what the pass says of the part that it was lent, said of the store
passes : (c : After-pass) → passb c.args.store.now (records_in c.args.store.now) ≡ c.pass.result
unfolding records_in
passes c = sym (rw (tail_lent header_size c.args.store.now) at c.pass.ensures)

pub bounds-store-1 : goal.bounds-store-1
bounds-store-1 c = omega (arith, (known (goal.at.bounds-store-1 c).Else-not-frame_ok).long)

pub overflow_cast-many : goal.overflow_cast-many
overflow_cast-many c = omega (arith, c.type_inv.store 1)

pub bounds-store-0 : goal.bounds-store-0
bounds-store-0 c = omega (arith, (known (goal.at.bounds-store-0 c).Else-not-frame_ok).long)

pub slice_bounds-body-count : goal.slice_bounds-body-count
slice_bounds-body-count c = omega (arith, (known (goal.at.slice_bounds-body-count c).Else-not-frame_ok).long)

pub slice_bounds-body-start : goal.slice_bounds-body-start
slice_bounds-body-start c = omega (arith, (known (goal.at.slice_bounds-body-start c).Else-not-frame_ok).long)

pub pass-requires : goal.pass-requires
pass-requires c =
    let f = known (goal.at.pass-requires c).Else-not-frame_ok in
    (body_long c.args.store.now f, omega (arith, f.few, f.most))

pub invariant_of-header : goal.invariant_of-header
invariant_of-header c = record { whole = omega (arith, (known (goal.at.invariant_of-header c).Else-not-frame_ok).long) }

pub returns-then-pass : goal.returns-then-pass
returns-then-pass c = rw (← pass_is c.args.store.now, known-test (goal.at.returns-then-pass c).Else-not-frame_ok, passes (goal.at.returns-then-pass c).After-pass ∙ c.if-pass.true, ← c.reserved.ensures, c.from-room.ensures)

pub returns-else-pass : goal.returns-else-pass
returns-else-pass c = rw (← pass_is c.args.store.now, known-test (goal.at.returns-else-pass c).Else-not-frame_ok, passes (goal.at.returns-else-pass c).After-pass ∙ c.if-pass.false) c.if-pass.false

pub returns-then-not-frame_ok : goal.returns-then-not-frame_ok
returns-then-not-frame_ok c = rw (← pass_is c.args.store.now, sym c.frame_ok.ensures ∙ c.if-not-frame_ok.true)
