-- `answering::sitting_answer` meets its contract: the refusal of the reader, of a feed or of the report, or the report's first line. Assumes nothing.
use Rattle.std.proofs.Common.{rules, Ok, Err, ℤ, sym, ◌∙◌, subst, w64}
use Rattle.std.proofs.lemmas.Result.{err_from_is_err_and}
use mir.Val.{SFits}
use mir.ValLaws.{to_z-of_z}
use Rattle.judgement.specs.Answers.{headed, Answers}
use Rattle.judgement.proofs.Judging.{reader_refuses, feed_refused, report_told}
use Rattle.answering.proofs.sitting_answer.Goals as goal

pub returns-in_err-shape : goal.returns-in_err-shape
returns-in_err-shape c =
    let p = err_from_is_err_and c.from_residual.result c.from_residual.ensures.1 in
    rw (p.1, p.2) (reader_refuses _ _ _ _ (sym c.read.ensures ∙ c.in_err-shape.was))

pub returns-in_err-feed_file : goal.returns-in_err-feed_file
returns-in_err-feed_file c =
    let p = err_from_is_err_and c.from_residual-in_err-feed_file.result c.from_residual-in_err-feed_file.ensures.1 in
    rw (p.1, p.2) (feed_refused _ _ _ c.in_ok-shape.shape (sym c.read.ensures ∙ c.in_ok-shape.was) _ _ (c.in_err-feed_file.ensures))

pub returns-in_err-reported : goal.returns-in_err-reported
returns-in_err-reported c =
    let p = err_from_is_err_and c.from_residual-in_err-reported.result c.from_residual-in_err-reported.ensures.1 in
    rw (p.1, p.2)
    (report_told _ _ _ c.in_ok-shape.shape (sym c.read.ensures ∙ c.in_ok-shape.was) (Err c.in_err-reported.field-0.0) _ _ (c.in_ok-feed_file.ensures) (c.in_err-reported.ensures))

pub returns : goal.returns
returns c =
    let shape = c.in_ok-shape.shape in
    let reported = c.in_ok-reported.reported in
    let fits : SFits w64 reported.score = search rules in
    subst (λ (z : ℤ). Answers c.args.file.now c.args.store.now c.args.sheet.now (Ok (headed shape reported.rows z)) c.feed_file.new.store c.report.new.sheet)
    (sym (to_z-of_z w64 reported.score fits))
    (report_told _ _ _ shape (sym c.read.ensures ∙ c.in_ok-shape.was) (Ok reported) _ _ (c.in_ok-feed_file.ensures) (c.in_ok-reported.ensures))
