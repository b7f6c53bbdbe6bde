-- `sobumikeyo_feed_all` meets its contract: no run has more than 2,048 accepted feeds, which fit. Assumes nothing.
use native.Mathlib.Omega.{arith}
use Rattle.calls.proofs.FewFeeds.{run_few}
use Rattle.sobumikeyo.proofs.sobumikeyo_feed_all.Goals as goal

pub overflow_cast-result : goal.overflow_cast-result
overflow_cast-result c = omega (arith, run_few _ _ _ _ _ _ _ c.feed_all-fed.ensures)
