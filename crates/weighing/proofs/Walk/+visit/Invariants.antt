-- `visit` meets its contract, by recursion on the symbols left below the context. Assumes nothing.
use Rattle.std.proofs.Common.{◌-◌}
use Rattle.contexts.specs.Keys.{context_of}
use Rattle.weighing.proofs.Turning.{Turn}
use Rattle.weighing.proofs.Walk.+visit.Given as goal

abbrev pub decreases-visit : goal.decreases-visit
decreases-visit l = l.here.left

abbrev pub invariant-loop : goal.invariant-loop
invariant-loop l = Turn l.self.desk l.self.held.n l.self.held.numbers.now (context_of l.here.key) (l.here.left - 1) l.at l.span l.counter l.key l.initial.kept l.kept l.children
