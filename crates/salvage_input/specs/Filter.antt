-- What the program `salvaging` puts out (document 02, E12): the saved file, and a line that tells what was lost, from standard input alone. Assumes nothing.
use Rattle.std.specs.Prelude.{ℕ, min, ◌-◌, ◌≡◌, List, [], map, pos, length, take}
use Rattle.replay.specs.Table.{Outcome, refused, answered}
use Rattle.sitting_file.specs.Format.{header_of}
use Rattle.sitting_file.specs.Input.{input_bytes, ReadInto}
use Rattle.salvage.specs.Salvage.{loss_numbers, Saved, salvage_of}
use Rattle.salvage.specs.Saving.{cut_more}
use Rattle.salvage.specs.declared.Lost.{Lost}
use Rattle.printing.specs.Text.{line_of, refusal_text}
use Rattle.printing.specs.Putting.{Printed}
use Rattle.salvage_input.specs.declared.Lengths.{Lengths}

-- the greatest number that is printed: where more bytes than that are cut off, it is told
abbrev pub most_told : ℕ
most_told = 9223372036854775807

-- the losses with that number at most for the bytes cut off
abbrev pub told_lost : Lost → Lost
told_lost lost = record { first = lost.first; second = lost.second; cut = min lost.cut most_told }

-- the five numbers on a line
abbrev pub loss_text : Lost → List ℕ
loss_text lost = line_of (map pos (loss_numbers (told_lost lost)))

-- the line on standard error: the five numbers, or `refused` and the number
unfoldable pub line_for : Outcome Saved → List ℕ
line_for (answered s) = loss_text s.lost
line_for (refused n) = refusal_text n

-- the bytes on standard output: the saved file, or none
unfoldable pub file_for : Outcome Saved → List ℕ
file_for (answered s) = s.file
file_for (refused n) = []

-- what is salvaged of some bytes, in a buffer as long as the input's
abbrev pub saved_input : List ℕ → Outcome Saved
saved_input damaged = salvage_of (header_of damaged) damaged input_bytes

-- no file is too long for that buffer: 19 is not printed
abbrev pub Never19 : Type 0
Never19 = (stdin : List ℕ) → saved_input stdin ≡ refused 19 → ⊥

-- an answer put into the bytes lent for the file and for the line: these and nothing else
pub record PutsOut (o : Outcome Saved) (file line : List ℕ) (r : Lengths) (file' line' : List ℕ) : Type 0 where
  pub its_file : Printed (file_for o) file file' r.file
  pub its_line : Printed (line_for o) line line' r.line

-- a buffer that `many` bytes of standard input were read into, with so many counted beyond it, and what is put out then
pub record FiltersInput (buffer : List ℕ) (many beyond : ℕ) (file line : List ℕ) (r : Lengths) (file' line' : List ℕ) : Type 0 where
  pub long : length buffer ≡ input_bytes
  -- the bytes read are salvaged, and those beyond are cut off too
  pub first_bytes_holds : PutsOut (cut_more beyond (saved_input (take many buffer))) file line r file' line'
  -- which is what is salvaged of the whole input, of any length
  pub whole : (stdin : List ℕ) → ReadInto stdin buffer many → min beyond most_told ≡ min (length stdin - many) most_told → PutsOut (saved_input stdin) file line r file' line'
