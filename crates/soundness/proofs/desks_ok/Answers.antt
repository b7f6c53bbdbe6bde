-- `soundness::desks_ok` meets its contract: the desks before have passed. Assumes nothing.
use mathlib.Core.Path.{◌≡◌, sym, ◌∙◌}
use native.Mathlib.Omega.{arith}
use Rattle.numbers.specs.Limits.{desks}
use Rattle.numbers.proofs.Every.{every_next, every_none, every_fails}
use Rattle.store.specs.Walk.{tally_ok}
use Rattle.soundness.proofs.desks_ok.Goals as goal

pub loop-desk-init : goal.loop-desk-init
loop-desk-init c = every_none (tally_ok c.args.header.store.now c.args.tally)

pub loop-desk-preserved : goal.loop-desk-preserved
loop-desk-preserved c =
    let test = tally_ok c.args.header.store.now c.args.tally in
    every_next c.loop-desk.desk test ∙ rw (c.loop-desk.invariant, sym c.desk_ok.ensures ∙ c.if-not-desk_ok.false)

pub returns-then-not-desk_ok : goal.returns-then-not-desk_ok
returns-then-not-desk_ok c =
    let test = tally_ok c.args.header.store.now c.args.tally in
    sym (every_fails desks test c.loop-desk.desk (omega arith) (sym c.desk_ok.ensures ∙ c.if-not-desk_ok.true))

pub returns : goal.returns
returns c =
    let done : c.loop-desk.desk ≡ desks = omega arith in
    sym (rw done at c.loop-desk.invariant)
