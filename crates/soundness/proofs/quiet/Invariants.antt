-- `soundness::quiet` meets its contract: the sum so far is 0 exactly where the counts so far from symbol `a` up are. Assumes nothing.
use Rattle.soundness.proofs.Loops.{Quiet}
use Rattle.soundness.proofs.quiet.Given as goal

abbrev pub invariant-loop-symbol : goal.invariant-loop-symbol
invariant-loop-symbol l = Quiet l.held l.from l.a l.seen l.symbol
