-- `soundness::desks_ok` meets its contract: the desks before have passed. Assumes nothing.
use mathlib.Core.Bool.{true}
use mathlib.Core.Path.{◌≡◌}
use Rattle.numbers.specs.Every.{every}
use Rattle.store.specs.Walk.{tally_ok}
use Rattle.soundness.proofs.desks_ok.Given as goal

abbrev pub invariant-loop-desk : goal.invariant-loop-desk
invariant-loop-desk l = every l.desk (tally_ok l.header.store.now l.fn.tally) ≡ true
