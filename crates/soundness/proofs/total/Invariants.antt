-- `soundness::total` meets its contract: the sum of the counts so far. Assumes nothing.
use Rattle.soundness.proofs.Loops.{Summing}
use Rattle.soundness.proofs.total.Given as goal

abbrev pub invariant-loop-count : goal.invariant-loop-count
invariant-loop-count l = Summing l.held l.from l.seen l.count-index
