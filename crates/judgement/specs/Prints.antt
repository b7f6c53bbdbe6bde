-- What the program prints (document 01, "Sitting file and program"), from the file alone. Assumes nothing.
use Rattle.std.specs.Prelude.{ℕ, ◌≡◌, List, [], ◌∷◌, ◌++◌, length, take}
use Rattle.rows.specs.Rows.{Row, numbers_of}
use Rattle.replay.specs.Table.{Outcome, refused, answered}
use Rattle.printing.specs.Text.{head_text, row_text, report_text, refusal_text}
use Rattle.printing.specs.Putting.{Printable, Printed}
use Rattle.sitting_file.specs.Input.{input_bytes, ReadInto}
use Rattle.judgement.specs.Judgement.{sheet_numbers, FileReport, judgement}
use Rattle.judgement.specs.Answers.{answer_for, Answers}
use Rattle.std.specs.Prelude.{Result, Ok, Err}
use Rattle.printing.specs.declared.Head.{Head}

-- "then a line for each row with kind, length, code and A counts"
unfoldable pub lines_text : ℕ → List Row → List ℕ
lines_text A [] = []
lines_text A (r ∷ rs) = row_text A (numbers_of r) ++ lines_text A rs

-- "a line with A, D, n, m, row count, score; then a line for each row"; "A refusal prints `refused` and the number."
unfoldable pub text_of : Outcome FileReport → List ℕ
text_of (refused n) = refusal_text n
text_of (answered x) =
    head_text x.shape.alphabet x.shape.depth x.shape.first x.shape.second (length x.report.rows) x.report.score ++ lines_text x.shape.alphabet x.report.rows

-- a file whose answer is put into the bytes lent: the text and nothing else, with the answer's sheet and store
pub record Prints (file store sheet bytes : List ℕ) (r : ℕ) (store' sheet' bytes' : List ℕ) : Type 0 where
  pub printed : Printed (text_of (judgement file sheet_numbers)) bytes bytes' r
  pub answers : Answers file store sheet (answer_for (judgement file sheet_numbers)) store' sheet'

-- ---- standard input

-- "The program reads standard input into 4,608 bytes": a buffer that `many` bytes were read into, and what is printed then
pub record PrintsInput (buffer : List ℕ) (many : ℕ) (store sheet bytes : List ℕ) (r : ℕ) (store' sheet' bytes' : List ℕ) : Type 0 where
  pub long : length buffer ≡ input_bytes
  -- the bytes read are judged, whatever their number
  pub first_bytes_holds : Prints (take many buffer) store sheet bytes r store' sheet' bytes'
  -- "Longer input is judged on its first 4,608 bytes, which always show a fault": the answer is that to the whole input, of any length
  pub whole : (stdin : List ℕ) → ReadInto stdin buffer many → Prints stdin store sheet bytes r store' sheet' bytes'

-- ---- an answer that is put

-- its rows stand on the sheet
abbrev pub CanPrint : Result Head ℕ → List ℕ → Type 0
CanPrint (Ok head) sheet = Printable head.alphabet head.rows sheet
CanPrint (Err n) sheet = Unit {0}

-- its text, with the rows as they stand there
abbrev pub text_from : Result Head ℕ → List ℕ → List ℕ
text_from (Ok head) sheet = report_text head.alphabet head.depth head.first head.second head.rows head.score sheet
text_from (Err n) sheet = refusal_text n
