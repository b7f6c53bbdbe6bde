-- `placing::put_bytes` meets its contract: after i turns the first i bytes stand in place. Assumes nothing.
use Rattle.std.proofs.Common.{◌+◌, take}
use Rattle.placing.specs.Placing.{Puts}
use Rattle.placing.proofs.put_bytes.Given as goal

abbrev pub invariant-loop-i : goal.invariant-loop-i
invariant-loop-i l = Puts (take l.i l.piece) l.at l.initial.buffer l.buffer (l.at + l.i)
