-- What the program's function promises of its answer, the sheet and the store. Assumes nothing.
use Rattle.std.specs.Prelude.{ℕ, ◌≡◌, List, length, ℤ}
use Rattle.replay.specs.Table.{Outcome, refused, answered}
use Rattle.calls.specs.Promises.{with_rows}
use Rattle.calls.specs.Refusals.{refusal_number}
use Rattle.printing.specs.declared.Head.{Head}
use Rattle.sitting_file.specs.Format.{read_of}
use Rattle.sitting_file.specs.declared.Shape.{Shape}
use Rattle.sitting_file.specs.Format.{Reading}
use Rattle.judgement.specs.Judgement.{FileReport, judgement}
use Rattle.judgement.specs.Sitting.{run_of, Means}
use Rattle.std.specs.Prelude.{Result, Ok, Err}
use Rattle.calls.specs.declared.Refusal.{Refusal}
use Rattle.calls.specs.declared.Reported as written

-- "A, D, n, m, row count, score"
abbrev pub headed : Shape → ℕ → ℤ → Head
headed shape rows score = record {
  alphabet = shape.alphabet;
  depth = shape.depth;
  first = shape.first;
  second = shape.second;
  rows = rows;
  score = score;
}

abbrev pub head_of : FileReport → Head
head_of x = headed x.shape (length x.report.rows) x.report.score

-- the judgement as the code answers it
unfoldable pub answer_for : Outcome FileReport → Result Head ℕ
answer_for (refused n) = Err n
answer_for (answered x) = Ok (head_of x)

-- a report's answer beside what the file announces
abbrev pub told_of : Shape → Result written.Reported Refusal → Result Head ℕ
told_of shape (Ok r) = Ok (headed shape r.rows r.score)
told_of shape (Err why) = Err (refusal_number why)

-- the rows stand on the sheet from row 0 on, every other number as before; a refusal leaves the sheet
unfoldable pub sheet_left : Outcome FileReport → List ℕ → List ℕ
sheet_left (refused n) sheet = sheet
sheet_left (answered x) sheet = with_rows 0 x.report.rows sheet

-- the store stays where the reader refuses, and else stands for the room with the file's feeds, up to the first refused
abbrev pub StoreAfter : List ℕ → Reading → List ℕ → List ℕ → Type 0
StoreAfter file (Err why) before after = after ≡ before
StoreAfter file (Ok shape) before after = Means after (run_of file shape).room

-- a file judged with a store and a sheet lent
pub record Answers (file store sheet : List ℕ) (r : Result Head ℕ) (store' sheet' : List ℕ) : Type 0 where
  pub answer : r ≡ answer_for (judgement file (length sheet))
  pub rows : sheet' ≡ sheet_left (judgement file (length sheet)) sheet
  pub numbers : StoreAfter file (read_of file) store store'
