-- What stands in an output after an answer, from what stood there before: a refused call writes no output. Assumes nothing.
use Rattle.std.specs.Prelude.{ℕ, List, [], ◌∷◌, ℤ, length, Float}
use Rattle.replay.specs.Table.{Outcome, refused, answered}
use Rattle.sitting_file.specs.Format.{Reading}
use Rattle.salvage.specs.Salvage.{loss_numbers, Saved}
use Rattle.chart.specs.declared.Chart.{Chart}
use Rattle.chart.specs.declared.Chart.TheVariants as chart
use Rattle.std.specs.Prelude.{Result, Ok, Err}
use Rattle.calls.specs.declared.Refusal.{Refusal}
use Rattle.calls.specs.declared.Reported as written

-- how many contexts are left
abbrev pub left_after : Result ℕ Refusal → ℕ → ℕ
left_after (Ok n) old = n
left_after (Err why) old = old

-- a report's row count and score
abbrev pub rows_after : Result written.Reported Refusal → ℕ → ℕ
rows_after (Ok r) old = r.rows
rows_after (Err why) old = old

abbrev pub score_after : Result written.Reported Refusal → ℤ → ℤ
score_after (Ok r) old = r.score
score_after (Err why) old = old

-- A, D, n and m
abbrev pub shape_after : Reading → List ℕ → List ℕ
shape_after (Ok x) old = x.alphabet ∷ x.depth ∷ x.first ∷ x.second ∷ []
shape_after (Err why) old = old

-- the length of a file that was written
abbrev pub length_after : Outcome ℕ → ℕ → ℕ
length_after (answered n) old = n
length_after (refused why) old = old

-- the length of a file that was saved
abbrev pub size_after : Outcome Saved → ℕ → ℕ
size_after (answered s) old = length s.file
size_after (refused why) old = old

-- what was lost of it: five numbers
abbrev pub losses_after : Outcome Saved → List ℕ → List ℕ
losses_after (answered s) old = loss_numbers s.lost
losses_after (refused why) old = old

-- which samples saw the context: 0 neither, 1 the first, 2 the second, 3 both
abbrev pub seen_in : Chart → ℕ
seen_in chart.Neither = 0
seen_in (chart.First x) = 1
seen_in (chart.Second y) = 2
seen_in (chart.Both p) = 3

-- the shares that a chart has, and their gap; one that it has not stays as it was
abbrev pub first_in : Chart → Float → Float
first_in chart.Neither old = old
first_in (chart.First x) old = x
first_in (chart.Second y) old = old
first_in (chart.Both p) old = p.first

abbrev pub second_in : Chart → Float → Float
second_in chart.Neither old = old
second_in (chart.First x) old = old
second_in (chart.Second y) old = y
second_in (chart.Both p) old = p.second

abbrev pub gap_in : Chart → Float → Float
gap_in chart.Neither old = old
gap_in (chart.First x) old = old
gap_in (chart.Second y) old = old
gap_in (chart.Both p) old = p.gap

-- the same after a chart question
abbrev pub seen_after : Result Chart Refusal → ℕ → ℕ
seen_after (Ok x) old = seen_in x
seen_after (Err why) old = old

abbrev pub first_after : Result Chart Refusal → Float → Float
first_after (Ok x) old = first_in x old
first_after (Err why) old = old

abbrev pub second_after : Result Chart Refusal → Float → Float
second_after (Ok x) old = second_in x old
second_after (Err why) old = old

abbrev pub gap_after : Result Chart Refusal → Float → Float
gap_after (Ok x) old = gap_in x old
gap_after (Err why) old = old
