-- The program's answer to a file (document 01, "Sitting file and program"), from the file alone: no store and no call stands in it.
-- Assumes nothing.
use Rattle.std.specs.Prelude.{ℕ, Bool, ◌||◌, List, [], ◌∷◌, reverse, eqb, ltb}
use Rattle.numbers.specs.Limits.{plain_weight}
use Rattle.contexts.specs.Sitting.{Sample, first, second, Sitting, contexts_held}
use Rattle.replay.specs.Room.{Opening, naming}
use Rattle.replay.specs.Table.{Line, ◌when◌, Outcome, refused, verdict_of}
use Rattle.rules.specs.Report.{Reported, report, too_short, does_not_fit}
use Rattle.rules.specs.Strings.{sitting_for}
use Rattle.sitting_file.specs.Format.{refusal_number, read_of}
use Rattle.sitting_file.specs.Samples.{first_of, second_of}
use Rattle.sitting_file.specs.declared.Shape.{Shape}
use Rattle.sitting_file.specs.Format.{Reading}
use Rattle.std.specs.Prelude.{Ok, Err}

-- "K 256", "r 256"
abbrev pub room_made : ℕ
room_made = 256

-- "a sheet of 512 rows"
abbrev pub sheet_numbers : ℕ
sheet_numbers = 5632

-- "The program uses weight 4", and reserves all the room
abbrev pub opening_of : Shape → Opening
opening_of shape = naming shape.alphabet shape.depth plain_weight room_made

-- the file's own two strings, most recent symbol first
unfoldable pub strings_in : List ℕ → Shape → Sample → List ℕ
strings_in file shape first = reverse (first_of file shape)
strings_in file shape second = reverse (second_of file shape)

-- the sitting of these strings, with N(s,a) as its counts
abbrev pub file_sitting : List ℕ → Shape → Sitting
file_sitting file shape = sitting_for (opening_of shape) (strings_in file shape)

-- "the feed would take the sitting past its reservation": some feed does, exactly when all of them together do
abbrev pub past_room : Sitting → Bool
past_room x = ltb room_made (contexts_held x)

-- "report while either sample is empty"
abbrev pub empty_sample : Shape → Bool
empty_sample shape = eqb shape.first 0 || eqb shape.second 0

-- "a sample with at least one symbol and no more than D"
abbrev pub short_sample : Shape → Bool
short_sample shape = too_short (opening_of shape) shape.first || too_short (opening_of shape) shape.second

-- the refusals of a file that the reader accepts, where the sheet has so many numbers
abbrev pub file_lines : List ℕ → Shape → ℕ → List Line
file_lines file shape sheet =
    10 when past_room (file_sitting file shape)
    ∷ 11 when empty_sample shape
    ∷ 24 when short_sample shape
    ∷ 12 when does_not_fit sheet 0 (file_sitting file shape)
    ∷ []

-- what the file announces, and the report
pub record FileReport : Type 0 where
  pub shape : Shape
  pub report : Reported

-- 13 to 16 where the reader refuses; else the first line that applies; else the report of the file's own sitting
unfoldable pub judged : List ℕ → ℕ → Reading → Outcome FileReport
judged file sheet (Err why) = refused (refusal_number why)
judged file sheet (Ok shape) = verdict_of (file_lines file shape sheet) (record { shape = shape; report = report (file_sitting file shape) })

abbrev pub judgement : List ℕ → ℕ → Outcome FileReport
judgement file sheet = judged file sheet (read_of file)
