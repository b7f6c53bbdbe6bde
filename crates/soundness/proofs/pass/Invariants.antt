-- `soundness::pass` meets its contract. The invariant is `Turn`: the records before have passed, with their marks and tally. Assumes nothing.
use Rattle.soundness.proofs.Turn.{Turn}
use Rattle.soundness.proofs.pass.Given as goal

abbrev pub invariant-loop-held : goal.invariant-loop-held
invariant-loop-held l = Turn l.header.store.now l.body l.many l.p l.q l.tally l.lo l.held-index
