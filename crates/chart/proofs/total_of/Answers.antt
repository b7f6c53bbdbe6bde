-- `chart::total_of` meets its contract: the sum of eight numbers is the row's. Assumes nothing.
use Rattle.std.proofs.Common.{rules, ◌≡◌}
use Rattle.std.specs.List as list
use Rattle.contexts.specs.Sitting.{sum_of}
use Rattle.chart.proofs.Totals.{sum_row}
use Rattle.chart.proofs.total_of.Goals as goal

pub sum-requires-clause-fits : goal.sum-requires-clause-fits
sum-requires-clause-fits c = let e : list.sum c.args.row ≡ sum_of c.args.row = sum_row c.args.row c.well_formed.0.1.0.1 in search rules

pub returns : goal.returns
returns c = let e : list.sum c.args.row ≡ sum_of c.args.row = sum_row c.args.row c.well_formed.0.1.0.1 in search rules
