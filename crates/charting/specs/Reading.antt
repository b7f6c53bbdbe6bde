-- What reading a context's chart out of a store asks. Assumes nothing.
use Rattle.std.specs.Prelude.{ℕ, ◌≤◌, List, length, drop}
use Rattle.records.specs.Records.{lookup}
use Rattle.records.specs.Held.{count_table, Standing}
use Rattle.chart.specs.Answer.{Chartable}
use Rattle.store.specs.Layout.{header_size, used, records_in}

-- the header and the records in use are there, and the counts under key k make a chart of symbol a
pub record Readable (s : List ℕ) (k a : ℕ) : Type 0 where
  pub header : header_size ≤ length s
  pub standing : Standing (used s) (drop header_size s)
  pub askable : Chartable (count_table (lookup k (records_in s))) a
