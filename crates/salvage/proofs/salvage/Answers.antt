-- `salvage::salvage` meets its contract: a faulty header, whose fault is the refusal's. Assumes nothing.
use Rattle.std.proofs.Common.{sym, ◌∙◌}
use Rattle.std.proofs.lemmas.Result.{err_from_is_err_and}
use Rattle.salvage.proofs.Answers.{fault_stays}
use Rattle.salvage.proofs.salvage.Goals as goal

pub returns-in_err-shape : goal.returns-in_err-shape
returns-in_err-shape c =
    let p = err_from_is_err_and c.from_residual.result c.from_residual.ensures.1 in
    rw (p.1, p.2) (fault_stays c.args.damaged.now c.args.file.now _ (sym c.header.ensures ∙ c.in_err-shape.was), tt)
