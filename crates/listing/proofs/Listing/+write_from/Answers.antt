-- `write_from` meets its contract: the rows here, and a turn for each child of which something is wanted. Assumes nothing.
use mathlib.Core.Path.{◌≡◌, refl, sym, subst, subst₂, ◌∙◌}
use mathlib.Core.Bool.{true}
use mathlib.Core.List.{List}
use Prim.Native.Nat.{ℕ, ◌-◌, ◌*◌, ◌/◌}
use native.Mathlib.Omega.{arith}
use lib.ListN.{length}
use Rattle.listing.specs.Plans.{goes_on}
use Rattle.listing.specs.Writing.{CanWrite, WroteAt, rows_from}
use Rattle.listing.specs.declared.Spot.{Spot}
use Rattle.listing.proofs.Reporting as reporting
use Rattle.listing.proofs.Onward as onward
use Rattle.listing.proofs.Listing.+write_from.Goals as goal
use Rattle.listing.proofs.Listing.+write_from.Goals.{Else-not-goes_on, In-loop}

-- something is wanted of the children, so symbols are left
on : (t : ℕ) (c : Else-not-goes_on t) → goes_on c.write_here-step.result.way ≡ true
on t c = sym c.goes_on.ensures ∙ c.if-not-goes_on.false

more : (t : ℕ) (c : Else-not-goes_on t) → c.args.spot.left ≡ 0 → ⊥
more t c = reporting.symbols_left c.requires c.write_here-step.ensures (on t c)

-- the child with this key and code
abbrev child : (t : ℕ) → Else-not-goes_on t → ℕ → ℕ → Spot
child t c key code =
    let spot = c.args.spot in
    record { key = key; span = spot.span / 8; left = spot.left - 1; code = code; power = 8 * spot.power; way = c.write_here-step.result.way }

pub write_here-step-requires : goal.write_here-step-requires
write_here-step-requires t c = reporting.can_here c.requires

pub returns-then-not-goes_on : goal.returns-then-not-goes_on
returns-then-not-goes_on t c = reporting.stopped c.requires c.write_here-step.ensures (sym c.goes_on.ensures ∙ c.if-not-goes_on.true)

pub loop-init : goal.loop-init
loop-init t c =
    let h = c.write_here-step in
    onward.onward_begin c.requires (more t (goal.at.loop-init t c).Else-not-goes_on) h.result.way h.result.to h.new.sheet

pub overflow_sub-left : goal.overflow_sub-left
overflow_sub-left t c = omega (arith, more t (goal.at.overflow_sub-left t c).Else-not-goes_on)

pub overflow_mul-power : goal.overflow_mul-power
overflow_mul-power t c = record { fits = onward.power_fits c.requires (more t (goal.at.overflow_mul-power t c).Else-not-goes_on) }

pub write_from-past-requires : goal.write_from-past-requires
write_from-past-requires t c =
    let x = c.args in
    let k = x.self.now in
    let h = c.write_here-step in
    let m = c.loop in
    let lt = c.loop-test.true in
    let e = (goal.at.write_from-past-requires t c).Else-not-goes_on in
    let long : length m.sheet ≡ length x.sheet.now = m.auto.sheet ∙ h.auto.sheet in (
      omega (arith, c.decreases, more t e),
      subst₂ (λ (top : ℕ) (u : List ℕ). CanWrite k.desk k.costs k.held.n k.held.numbers.now k.kept.now top u (child t e m.key m.code) m.past) (sym long) (sym (onward.onward_is c.requires (more t e) m.invariant lt))
          (onward.onward_can c.requires (more t e) m.invariant lt (reporting.child_room c.requires h.ensures (on t e))),
    )

pub overflow_add-key-in-loop : goal.overflow_add-key-in-loop
overflow_add-key-in-loop t c = record { fits = onward.onward_key c.requires (more t (goal.at.overflow_add-key-in-loop t c).Else-not-goes_on) c.loop.invariant c.loop-test.true }

pub overflow_add-code : goal.overflow_add-code
overflow_add-code t c = record { fits = onward.onward_code c.requires (more t (goal.at.overflow_add-code t c).Else-not-goes_on) c.loop.invariant c.loop-test.true }

pub loop-preserved : goal.loop-preserved
loop-preserved t c =
    let k = c.args.self.now in
    let h = c.write_here-step in
    let m = c.loop in
    let lt = c.loop-test.true in
    let g = c.write_from-past in
    let e = (goal.at.loop-preserved t c).Else-not-goes_on in
    onward.onward_next c.requires (more t e) m.invariant lt h.auto.sheet (reporting.child_room c.requires h.ensures (on t e)) g.new.sheet g.result
    (subst (λ (u : List ℕ). WroteAt m.sheet g.new.sheet m.past (rows_from k.desk k.held.n k.held.numbers.now u (child t e m.key m.code)) g.result) (onward.onward_is c.requires (more t e) m.invariant lt) g.ensures)

pub returns : goal.returns
returns t c =
    let e = (goal.at.returns t c).Else-not-goes_on in
    reporting.finished c.requires c.write_here-step.ensures (on t e) refl (onward.onward_done c.requires (more t e) c.loop.invariant c.loop-test.false)
