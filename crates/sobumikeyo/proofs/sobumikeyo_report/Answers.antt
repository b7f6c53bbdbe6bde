-- `sobumikeyo_report` meets its contract: the report's answer, as numbers. Assumes nothing.
use borrow.Author.Rules.{rules}
use mir.Syntax.{w64}
use mir.Val.{SFits}
use mir.ValLaws.{to_z-of_z}
use Rattle.told.proofs.Telling.{report_refused, report_told}
use Rattle.sobumikeyo.proofs.sobumikeyo_report.Goals as goal

pub returns-in-Err : goal.returns-in-Err
returns-in-Err c =
    report_refused c.report.result c.report.ensures c.in-Err.is c.from.ensures

pub returns-in-Ok : goal.returns-in-Ok
returns-in-Ok c =
    let fits : SFits w64 c.in-Ok.reported.score = search rules in
    report_told c.report.result c.report.ensures c.in-Ok.is (to_z-of_z w64 c.in-Ok.reported.score fits)
