-- Nothing is read twice. Assumes nothing.
use Rattle.std.proofs.Common.{◌≤◌, length}
use Rattle.player.proofs.scan.Script.numbers.Given as goal

abbrev pub invariant-loop-number : goal.invariant-loop-number
invariant-loop-number g l = length l.self.rest.now ≤ length l.initial.self.rest.now
