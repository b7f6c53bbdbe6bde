-- `soundness::desk_ok` meets its contract: a desk that is not open, and the tests of an open one. Assumes nothing.
use native.Mathlib.Omega.{arith}
use Rattle.std.proofs.lemmas.Bool.Decides.{nat_tests}
use Rattle.std.proofs.lemmas.Grind.{common_steps}
use Rattle.store.specs.Sound.{desk_test}
use Rattle.soundness.proofs.desk_ok.Goals as goal

pub returns-then-not-is_open : goal.returns-then-not-is_open
unfolding desk_test
returns-then-not-is_open c = grind (arith, nat_tests, common_steps)

pub returns-then-many-reserve : goal.returns-then-many-reserve
unfolding desk_test
returns-then-many-reserve c = grind (arith, nat_tests, common_steps)

pub returns-else-many-reserve : goal.returns-else-many-reserve
unfolding desk_test
returns-else-many-reserve c = grind (arith, nat_tests, common_steps)
