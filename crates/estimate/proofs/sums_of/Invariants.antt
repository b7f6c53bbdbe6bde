-- `estimate::sums_of` meets its contract: the loop has the sums of the symbols passed. Assumes nothing.
use Rattle.estimate.specs.Adding.{SumsOf}
use Rattle.estimate.proofs.sums_of.Given as goal

abbrev pub invariant-loop-a : goal.invariant-loop-a
invariant-loop-a l = SumsOf l.a l.counts l.sums
