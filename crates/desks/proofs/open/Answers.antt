-- `desks::open` meets its contract: one law of Granting for each way through it. Assumes nothing.
use mathlib.Core.Path.{◌≡◌, sym, ◌∙◌}
use mathlib.Core.Bool.{true}
use borrow.Author.Tests.{not-true, not-false, le-ltb, lt-ltb}
use borrow.Author.Rules.{rules}
use Rattle.numbers.specs.Limits.{most_weight}
use Rattle.numbers.proofs.Tests.{is_true, of_true, not_both}
use Rattle.replay.specs.Machine.{at_desk, opening, weight_outside}
use Rattle.replay.specs.Room.{naming}
use Rattle.store.specs.Plain.{Open}
use Rattle.store.specs.Sound.{soundb}
use Rattle.store.specs.Meaning.{meaning}
use Rattle.store.proofs.Passing.{header_long}
use Rattle.calls.proofs.Keeping.{moves_unsound, moves_refused}
use Rattle.changes.proofs.Granting.{no_desk, outside, heavy}
use Rattle.changes.proofs.Vacant.{shut_there, open_there}
use Rattle.desks.proofs.open.Goals as goal
use Rattle.desks.proofs.open.Goals.{Else-is_open, Else-not-sound}

-- ---- what each test has told

passed : (c : Else-not-sound) → soundb c.args.store.now ≡ true
passed c = sym c.sound.ensures ∙ c.if-not-sound.false

shut : (c : Else-is_open) → (let x = c.args in Open x.store.now x.desk → ⊥)
shut c o = not_both _ (is_true _ o.opened) (sym c.is_open.ensures ∙ c.if-is_open.false)

-- ---- the needs

pub returns-then-not-sound : goal.returns-then-not-sound
returns-then-not-sound c =
    let x = c.args in
    moves_unsound x.store.now (at_desk x.desk (opening (naming x.alphabet x.depth x.weight x.reservation))) (sym c.sound.ensures ∙ c.if-not-sound.true)

pub returns-then-desk-ge-DESKS : goal.returns-then-desk-ge-DESKS
returns-then-desk-ge-DESKS c =
    let x = c.args in
    let o = naming x.alphabet x.depth x.weight x.reservation in
    moves_refused x.store.now (at_desk x.desk (opening o)) 2 (passed (goal.at.returns-then-desk-ge-DESKS c).Else-not-sound) (no_desk (meaning x.store.now) x.desk o c.if-desk-ge-DESKS.true)

pub invariant_of-numbers : goal.invariant_of-numbers
invariant_of-numbers c =
    record { there = (header_long c.args.store.now (passed (goal.at.invariant_of-numbers c).Else-not-sound), c.if-desk-ge-DESKS.false) }

pub returns-then-is_open : goal.returns-then-is_open
returns-then-is_open c =
    let x = c.args in
    let o = naming x.alphabet x.depth x.weight x.reservation in
    moves_refused x.store.now (at_desk x.desk (opening o)) 3 (passed (goal.at.returns-then-is_open c).Else-not-sound) (open_there x.store.now x.desk o (record { desk = c.if-desk-ge-DESKS.false; opened = of_true _ (sym c.is_open.ensures ∙ c.if-is_open.true) }))

pub returns-then-outside_limits : goal.returns-then-outside_limits
returns-then-outside_limits c =
    let x = c.args in
    let o = naming x.alphabet x.depth x.weight x.reservation in
    moves_refused x.store.now (at_desk x.desk (opening o)) 5 (passed (goal.at.returns-then-outside_limits c).Else-not-sound) (outside (meaning x.store.now) x.desk o c.if-desk-ge-DESKS.false (shut_there x.store.now x.desk (shut (goal.at.returns-then-outside_limits c).Else-is_open)) (sym c.outside_limits.ensures ∙ c.if-outside_limits.true))

pub returns-then-weight-gt-MOST_WEIGHT : goal.returns-then-weight-gt-MOST_WEIGHT
unfolding weight_outside
returns-then-weight-gt-MOST_WEIGHT c =
    let x = c.args in
    let o = naming x.alphabet x.depth x.weight x.reservation in
    moves_refused x.store.now (at_desk x.desk (opening o)) 20 (passed (goal.at.returns-then-weight-gt-MOST_WEIGHT c).Else-not-sound)
    (heavy (meaning x.store.now) x.desk o c.if-desk-ge-DESKS.false (shut_there x.store.now x.desk (shut (goal.at.returns-then-weight-gt-MOST_WEIGHT c).Else-is_open))
    (sym c.outside_limits.ensures ∙ c.if-outside_limits.false) (lt-ltb most_weight x.weight c.if-weight-gt-MOST_WEIGHT.true))

pub open_reserving-requires : goal.open_reserving-requires
unfolding weight_outside
open_reserving-requires c =
    let x = c.args in
    record {
      sound = passed (goal.at.open_reserving-requires c).Else-not-sound;
      desk = c.if-desk-ge-DESKS.false;
      shut = shut (goal.at.open_reserving-requires c).Else-is_open;
      limits = sym c.outside_limits.ensures ∙ c.if-outside_limits.false;
      weight = le-ltb most_weight x.weight c.if-weight-gt-MOST_WEIGHT.false;
    }
