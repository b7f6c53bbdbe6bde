-- `visit` meets its contract: a leaf, or a turn for each child and the split over them. Assumes nothing.
use mathlib.Core.Path.{refl, sym, ◌∙◌}
use native.Mathlib.Omega.{arith}
use Rattle.weighing.proofs.Visiting.{kept_there, countable, own_small, answer_leaf}
use Rattle.weighing.proofs.Turning.{child_stands, child_fits, can_visit, can_add, can_add_unseen, unseen, turn_next}
use Rattle.weighing.proofs.Turned.{turns_begin, kept_still, rows_small, turns_end}
use Rattle.weighing.proofs.Walk.+visit.Goals as goal
use Rattle.weighing.proofs.Walk.+visit.Goals.{then-stands, else-stands}

pub losses_at-own-requires : goal.losses_at-own-requires
losses_at-own-requires t c = countable c.requires

pub leaf_here-requires : goal.leaf_here-requires
leaf_here-requires t c = (kept_there c.requires, own_small c.requires c.losses_at-own.ensures)

pub returns-then-here-eq0 : goal.returns-then-here-eq0
returns-then-here-eq0 t c = answer_leaf c.requires c.losses_at-own.ensures c.if-here-eq0.true c.leaf_here.ensures

-- ---- its children

pub overflow_add-at : goal.overflow_add-at
overflow_add-at t c = omega (arith, kept_there c.requires)

pub loop-init : goal.loop-init
loop-init t c = turns_begin c.requires c.if-here-eq0.false c.none_yet-children.ensures

-- ---- a turn of the loop

pub stands-requires : goal.stands-requires
stands-requires t c = child_stands c.requires c.if-here-eq0.false c.loop.invariant c.loop-test.true

pub visit-requires : goal.visit-requires
visit-requires t c =
    (omega (arith, c.decreases, c.if-here-eq0.false), can_visit c.requires c.if-here-eq0.false c.loop.invariant c.loop-test.true (sym c.stands.ensures ∙ c.if-stands.true))

pub and_child-children-requires : goal.and_child-children-requires
and_child-children-requires t c = can_add c.requires c.if-here-eq0.false c.loop.invariant c.loop-test.true c.visit.ensures

pub and_unseen-children-requires : goal.and_unseen-children-requires
and_unseen-children-requires t c = can_add_unseen c.requires c.if-here-eq0.false c.loop.invariant c.loop-test.true (sym c.stands.ensures ∙ c.if-stands.false)

pub overflow_add-key-in-loop : goal.overflow_add-key-in-loop
overflow_add-key-in-loop t c = record { fits = child_fits c.requires c.if-here-eq0.false c.loop.invariant c.loop-test.true }

pub loop-preserved : goal.loop-preserved
loop-preserved t c =
    let v = c.requires in
    let more = c.if-here-eq0.false in
    let m = c.loop.invariant in
    let lt = c.loop-test.true in
    elim c.if-stands.branch [
      | then-stands w ↦ turn_next v more m lt w.visit.ensures w.visit.auto.kept w.and_child-children.ensures w.kept-is w.children-is
      | else-stands w ↦
          let u = w.and_unseen-children.ensures in
          turn_next v more m lt (unseen v more m lt (sym c.stands.ensures ∙ w.if-stands.false) u.is) refl u.child w.kept-is w.children-is
    ]

-- ---- after the last child

pub split_here-requires : goal.split_here-requires
split_here-requires t c =
    let v = c.requires in
    let more = c.if-here-eq0.false in
    let m = c.loop.invariant in
    let done = c.loop-test.false in
    (kept_still v more m done, own_small v c.losses_at-own.ensures, rows_small v more m done)

pub returns : goal.returns
returns t c = turns_end c.requires c.if-here-eq0.false c.loop.invariant c.loop-test.false c.losses_at-own.ensures c.split_here.ensures
