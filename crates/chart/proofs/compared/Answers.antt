-- `chart::compared` meets its contract: each return is one of the four cases. Assumes nothing.
use mathlib.Core.Path.{sym, ap, ap₂, ◌∙◌}
use native.Mathlib.Omega.{arith}
use Rattle.chart.specs.Answer.{point_of}
use Rattle.chart.specs.declared.Chart.TheVariants.{First, Second, Both}
use Rattle.chart.proofs.Answers.{answer_neither, answer_first, answer_second, answer_both}
use Rattle.chart.proofs.compared.Goals as goal

pub returns-in-0-eq0 : goal.returns-in-0-eq0
returns-in-0-eq0 c = sym (answer_neither _ _ _ _ c.in-0-eq0.is-0 c.in-0-eq0.is-1)

pub returns-in-0-default : goal.returns-in-0-default
returns-in-0-default c = ap Second c.share_of.ensures ∙ sym (answer_second _ _ _ _ c.in-0-default.is-0 (omega arith))

pub returns-in_default-eq0 : goal.returns-in_default-eq0
returns-in_default-eq0 c = ap First c.share_of-in_default-eq0.ensures ∙ sym (answer_first _ _ _ _ (omega arith) c.in_default-eq0.is-1)

pub returns-in_default : goal.returns-in_default
returns-in_default c =
    ap Both (c.point_of.ensures ∙ ap₂ point_of c.share_of-in_default.ensures c.share_of-in_default-2.ensures)
    ∙ sym (answer_both _ _ _ _ (omega arith) (omega arith))
