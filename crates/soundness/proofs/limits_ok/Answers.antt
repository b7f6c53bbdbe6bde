-- `soundness::limits_ok` meets its contract: each way by the tests made. Assumes nothing.
use native.Mathlib.Omega.{arith}
use Rattle.std.proofs.lemmas.Bool.Decides.{nat_tests}
use Rattle.std.proofs.lemmas.Grind.{common_steps}
use Rattle.store.specs.Sound.{limits_ok}
use Rattle.soundness.proofs.limits_ok.Goals as goal

pub returns-then-size-le-LONGEST : goal.returns-then-size-le-LONGEST
unfolding limits_ok
returns-then-size-le-LONGEST c = grind (arith, nat_tests, common_steps)

pub returns-else-size-le-LONGEST : goal.returns-else-size-le-LONGEST
unfolding limits_ok
returns-else-size-le-LONGEST c = grind (arith, nat_tests, common_steps)
