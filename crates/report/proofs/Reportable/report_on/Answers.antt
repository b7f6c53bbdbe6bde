-- `report::Reportable::report_on` meets its contract. Assumes nothing.
use native.Mathlib.Omega.{arith}
use Rattle.report.proofs.Answering.{short_told, report_told}
use Rattle.report.proofs.Negative.{minus_back}
use Rattle.report.proofs.Reportable.report_on.Goals as goal

pub returns-then-whole-place : goal.returns-then-whole-place
returns-then-whole-place c =
    short_told c.args.self.now.store.now c.args.self.now.desk c.args.self.now.can c.args.place c.args.sheet.now _ c.weighed-least.result c.weighed-least.ensures c.if-whole-place.true

pub returns : goal.returns
returns c =
    let r = c.weighed-least.result in
    let e = c.weighed-least.ensures in
    report_told c.args.self.now.store.now c.args.self.now.desk c.args.self.now.can c.args.place c.args.sheet.now _ r e (omega (arith, c.if-whole-place.false)) _ _ c.write.ensures
    (minus_back r.joint c.score_of.result e.joint_small c.score_of.ensures)
