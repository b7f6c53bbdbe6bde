-- `Held::seek` meets its contract: the contexts that are shorter than `found` are held, at their places. Assumes nothing.
use Rattle.records.specs.Records.{records}
use Rattle.records.proofs.KeyWalk.{Walk}
use Rattle.records.proofs.Seeking.{Passed}
use Rattle.records.proofs.Held.seek.Given as goal

abbrev pub invariant-loop-found : goal.invariant-loop-found
invariant-loop-found l =
    Walk l.desk l.recent l.key l.eights l.found × Passed l.desk l.recent (records l.self.n l.self.numbers.now) l.places l.from l.found
