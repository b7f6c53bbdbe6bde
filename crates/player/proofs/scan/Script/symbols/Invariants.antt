-- Nothing is read twice. Assumes nothing.
use Rattle.std.proofs.Common.{◌≤◌, length}
use Rattle.player.proofs.scan.Script.symbols.Given as goal

abbrev pub invariant-loop-symbol : goal.invariant-loop-symbol
invariant-loop-symbol l = length l.self.rest.now ≤ length l.initial.self.rest.now
