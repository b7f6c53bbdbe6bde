-- `player::play` ends: each call reads a number at least, and it lends no more numbers than there are. Assumes nothing.
use Rattle.std.proofs.Common.{◌≤◌, length}
use Rattle.player.proofs.play.play.Given as goal

abbrev pub invariant-loop-opcode : goal.invariant-loop-opcode
invariant-loop-opcode g l =
    (goal.iterator-loop-opcode g).can_next l.script ×
    (goal.iterator-loop-opcode g).is_finite l.script ×
    (l.lent ≤ length l.store)
