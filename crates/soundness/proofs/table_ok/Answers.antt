-- `soundness::table_ok` meets its contract: the two samples' tests. Assumes nothing.
use native.Mathlib.Omega.{arith}
use Rattle.std.proofs.lemmas.Bool.Decides.{nat_tests}
use Rattle.std.proofs.lemmas.Grind.{common_steps}
use Rattle.store.specs.Sound.{table_ok}
use Rattle.soundness.proofs.table_ok.Goals as goal

pub returns-then-counts_ok-2 : goal.returns-then-counts_ok-2
unfolding table_ok
returns-then-counts_ok-2 c = let given = c.requires.1 in grind (arith, nat_tests, common_steps)

pub returns-else-counts_ok-2 : goal.returns-else-counts_ok-2
unfolding table_ok
returns-else-counts_ok-2 c = let given = c.requires.1 in grind (arith, nat_tests, common_steps)
