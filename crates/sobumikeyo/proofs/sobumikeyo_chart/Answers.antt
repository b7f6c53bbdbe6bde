-- `sobumikeyo_chart` meets its contract: the chart question's answer, as numbers. Assumes nothing.
use Rattle.chart.specs.declared.Chart.TheVariants.{Neither, First, Second, Both}
use Rattle.told.proofs.Telling.{chart_refused, chart_told}
use Rattle.sobumikeyo.proofs.sobumikeyo_chart.Goals as goal

pub returns-in-Err : goal.returns-in-Err
returns-in-Err c =
    chart_refused c.chart.result c.chart.ensures c.in-Err.is c.from.ensures

pub returns-in-Neither : goal.returns-in-Neither
returns-in-Neither c =
    chart_told c.chart.result c.chart.ensures Neither c.in-Ok.is c.in-Neither.is

pub returns-in-First : goal.returns-in-First
returns-in-First c =
    chart_told c.chart.result c.chart.ensures (First _) c.in-Ok.is c.in-First.is

pub returns-in-Second : goal.returns-in-Second
returns-in-Second c =
    chart_told c.chart.result c.chart.ensures (Second _) c.in-Ok.is c.in-Second.is

pub returns-in-Both : goal.returns-in-Both
returns-in-Both c =
    chart_told c.chart.result c.chart.ensures (Both _) c.in-Ok.is c.in-Both.is
