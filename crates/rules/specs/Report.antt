-- A report: its rows, its score, its refusals (document 01, "Report rows"). Assumes nothing.
use Rattle.std.specs.Prelude.{ℕ, ◌+◌, ◌/◌, Bool, ◌&&◌, ◌||◌, List, [], ◌∷◌, length, eqb, leb, ltb, ℤ}
use Rattle.contexts.specs.Sitting.{first, second, Sitting, Progress, sat}
use Rattle.estimate.specs.Score.{score, worths}
use Rattle.estimate.specs.Recursion.{estimate_of}
use Rattle.numbers.specs.Limits.{row_width}
use Rattle.rows.specs.Rows.{Row, report_of}
use Rattle.replay.specs.Room.{Opening}
use Rattle.replay.specs.Table.{Line, ◌when◌}

-- "The answer is the row count and the score", and the rows are what was written
pub record Reported : Type 0 where
  pub rows : List Row
  pub score : ℤ

-- the report of a sitting
abbrev pub report : Sitting → Reported
report x = record { rows = report_of x; score = score x.symbols x.depth (worths x) (estimate_of x) }

-- "report while either sample is empty"
abbrev pub some_empty : Progress → Bool
some_empty p = eqb (p.size first) 0 || eqb (p.size second) 0

-- "a sample with at least one symbol and no more than D" (document 02, E8): none of its symbols is counted. Told of one sample, by its length
abbrev pub too_short : Opening → ℕ → Bool
too_short o n = ltb 0 n && leb n o.depth

-- report while either sample is too short
abbrev pub some_short : Opening → Progress → Bool
some_short o p = too_short o (p.size first) || too_short o (p.size second)

-- "p plus the rows needed exceeds the whole rows in the sheet": a sheet of so many numbers, from row `place` on
abbrev pub does_not_fit : ℕ → ℕ → Sitting → Bool
does_not_fit sheet place x = ltb (sheet / row_width) (place + length (report_of x))

-- the refusals of a report at an open desk: 24 goes "after 11 and before 12"
abbrev pub report_lines : Opening → Progress → ℕ → ℕ → List Line
report_lines o p sheet place =
    11 when some_empty p
    ∷ 24 when some_short o p
    ∷ 12 when does_not_fit sheet place (sat o.symbols o.depth o.weight p)
    ∷ []
