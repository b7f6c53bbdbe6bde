-- `placing::put_bytes` meets its contract: after i turns the first i bytes stand in place. Assumes nothing.
use Rattle.placing.proofs.Laws.{puts_next}
use Rattle.placing.proofs.put_bytes.Goals as goal

pub loop-i-preserved : goal.loop-i-preserved
loop-i-preserved c = puts_next c.args.piece.now c.args.at c.loop-i.i c.args.buffer.now c.loop-i.buffer c.requires c.loop-i-test.true c.loop-i.invariant
