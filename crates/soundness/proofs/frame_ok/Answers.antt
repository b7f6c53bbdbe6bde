-- `soundness::frame_ok` meets its contract: each way by the tests made. Assumes nothing.
use native.Mathlib.Omega.{arith}
use Rattle.std.proofs.lemmas.Bool.Decides.{nat_tests}
use Rattle.std.proofs.lemmas.Grind.{common_steps}
use Rattle.store.specs.Sound.{frame_ok}
use Rattle.soundness.proofs.frame_ok.Goals as goal

pub returns-then-len-lt-HEADER : goal.returns-then-len-lt-HEADER
unfolding frame_ok
returns-then-len-lt-HEADER c = grind (arith, nat_tests, common_steps)

pub returns-then-room-len : goal.returns-then-room-len
unfolding frame_ok
returns-then-room-len c = grind (arith, nat_tests, common_steps)

pub returns-else-room-len : goal.returns-else-room-len
unfolding frame_ok
returns-else-room-len c = grind (arith, nat_tests, common_steps)
