-- `charting::key_of` meets its contract: what has been read of the code stands in the key, and the rest decides. Assumes nothing.
use Rattle.charting.proofs.CodeWalk.{Unread}
use Rattle.charting.proofs.key_of.Given as goal

abbrev pub invariant-loop-newer : goal.invariant-loop-newer
invariant-loop-newer l = Unread l.symbols l.desk l.length l.code l.key l.rest l.newer
