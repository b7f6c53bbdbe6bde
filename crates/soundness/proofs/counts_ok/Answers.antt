-- `soundness::counts_ok` meets its contract. Assumes nothing.
use native.Mathlib.Omega.{arith}
use Rattle.std.proofs.lemmas.Bool.Decides.{nat_tests}
use Rattle.std.proofs.lemmas.Grind.{common_steps}
use Rattle.store.specs.Sound.{counts_ok}
use Rattle.soundness.proofs.counts_ok.Goals as goal

pub returns-then-quiet : goal.returns-then-quiet
unfolding counts_ok
returns-then-quiet c = grind (arith, nat_tests, common_steps)

pub returns-else-quiet : goal.returns-else-quiet
unfolding counts_ok
returns-else-quiet c = grind (arith, nat_tests, common_steps)
