-- `streams::read_full` reads into the buffer's start: each reading adds its piece to those before. Assumes nothing.
use Rattle.std.proofs.Common.{arith}
use Rattle.std.proofs.lemmas.Grind.{common_steps}
use Rattle.streams.proofs.Pieces.{take_pieces, consumes_both}
use Rattle.streams.proofs.read_full.Goals as goal

pub loop-done-preserved : goal.loop-done-preserved
loop-done-preserved g c = record {
  within = grind (arith, common_steps);
  long = grind (arith, common_steps);
  bytes = rw (take_pieces c.loop-done.done c.read_some-found.result c.loop-done.buffer c.read_some-found.new.buffer _ c.loop-done.invariant.within c.read_some-found.ensures.within) (consumes_both _ _ _ _ _ c.loop-done.invariant.bytes c.read_some-found.ensures.bytes);
}
