-- `answering::input_text` meets its contract: no more bytes are judged than the buffer has. Assumes nothing.
use Rattle.std.proofs.Common.{rules}
use Rattle.judgement.proofs.Longer.{input_prints}
use Rattle.answering.proofs.input_text.Goals as goal

pub returns : goal.returns
returns c =
    input_prints c.args.input.now c.args.many c.judged_bytes-end.result _ _ _ _ _ _ _ (search rules) c.judged_bytes-end.ensures c.sitting_text.ensures
