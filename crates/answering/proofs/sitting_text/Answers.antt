-- `answering::sitting_text` meets its contract: the answer is found, and its text is put. Assumes nothing.
use borrow.Author.Rules.{rules}
use Rattle.judgement.proofs.Texts.{can_print, answer_prints}
use Rattle.answering.proofs.sitting_text.Goals as goal

pub put_answer-requires : goal.put_answer-requires
put_answer-requires c =
    can_print _ _ _ _ _ _ c.sitting_answer-answer.ensures (search rules)

pub returns : goal.returns
returns c =
    answer_prints _ _ _ _ _ _ c.sitting_answer-answer.ensures _ _ _ (search rules) c.put_answer.ensures
