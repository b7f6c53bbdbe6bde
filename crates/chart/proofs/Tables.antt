-- Tables of two samples by eight symbols: the chart's answer by a sitting's table is the sitting's. Assumes nothing.
use Prim.Native.Nat.{ℕ, ◌≤◌, ◌<◌}
use mathlib.Core.Path.{◌≡◌, ◌∙◌}
use mathlib.Core.List.{List}
use Rattle.numbers.specs.Limits.{most_symbols, most_counted}
use Rattle.numbers.specs.Sum.{sum}
use Rattle.numbers.proofs.Sums.{sum_cong, sum_past}
use Rattle.contexts.specs.Sitting.{Sample, first, second, Sitting, total_in, table, count_in}
use Rattle.contexts.proofs.Tables.{table_count}
use Rattle.chart.specs.Answer.{chart_of, chart_in, Chartable}

-- ---- a context of a sitting that has no count from A up
module _ (x : Sitting) (s : List ℕ) (few : x.symbols ≤ most_symbols) (none : (i : Sample) (a : ℕ) → x.symbols ≤ a → x.count i s a ≡ 0) where
  pub table_total : (i : Sample) → sum most_symbols (count_in (table x s) i) ≡ total_in x i s
  table_total i = sum_cong most_symbols (table_count x s i) ∙ sum_past x.symbols most_symbols (x.count i s) few (none i)

  -- THEOREM. The answer by the context's table is the sitting's
  pub table_chart : (a : ℕ) → a < most_symbols → chart_in (table x s) a ≡ chart_of x s a
  table_chart a l = rw (table_count x s first a l, table_count x s second a l, table_total first, table_total second)

  -- what the code asks of a table, where both totals are within the limit
  pub table_askable : (a : ℕ) → a < most_symbols → ((i : Sample) → total_in x i s ≤ most_counted) → Chartable (table x s) a
  table_askable a l h = record { symbol = l; first = rw (table_total first) (h first); second = rw (table_total second) (h second) }
