-- `soundness::key_fits` meets its contract: each way by the tests made. Assumes nothing.
use native.Mathlib.Omega.{arith}
use Rattle.std.proofs.lemmas.Bool.Decides.{nat_tests}
use Rattle.std.proofs.lemmas.Grind.{common_steps}
use Rattle.store.specs.Walk.{key_fits}
use Rattle.soundness.proofs.key_fits.Goals as goal

pub returns-then-oldest_ok : goal.returns-then-oldest_ok
unfolding key_fits
returns-then-oldest_ok c = grind (arith, nat_tests, common_steps)

pub returns-else-oldest_ok : goal.returns-else-oldest_ok
unfolding key_fits
returns-else-oldest_ok c = grind (arith, nat_tests, common_steps)

pub returns-then-desk-ge-DESKS : goal.returns-then-desk-ge-DESKS
unfolding key_fits
returns-then-desk-ge-DESKS c = grind (arith, nat_tests, common_steps)
