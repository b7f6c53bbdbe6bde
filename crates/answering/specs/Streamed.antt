-- What the program does between a reader and a writer: it answers the bytes that it took from the one to the other. Assumes nothing.
use Rattle.std.specs.Prelude.{◌≤◌, ◌≡◌, Bool, true, List, length, ℕ, Option}
use Rattle.std.specs.Io.KnownBytes.{Consumes, Appends}
use Rattle.sitting_file.specs.Input.{input_bytes}
use Rattle.judgement.specs.Judgement.{sheet_numbers, judgement}
use Rattle.judgement.specs.Prints.{text_of}
use Rattle.judgement.specs.Answers.{StoreAfter}
use Rattle.sitting_file.specs.Format.{read_of}

-- of a reader and a writer whose bytes are known: those before and after; and of the store lent
pub record AnswersStream (input input' output output' : Option (List ℕ)) (store : List ℕ) (whole : Bool) (store' : List ℕ) : Type 0 where
  -- the file: as many of the reader's next bytes as were read, at most 4,608
  pub file : List ℕ
  pub few : length file ≤ input_bytes
  pub taken : Consumes input input' file
  -- where all of it could be written: its text, and nothing else
  pub told : whole ≡ true → Appends output output' (text_of (judgement file sheet_numbers))
  -- the store: as it was where `read_of` refuses the file, else for the room with the file's feeds, up to the first refused
  pub numbers : StoreAfter file (read_of file) store store'
