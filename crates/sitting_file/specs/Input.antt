-- A program's input: what is read of it, and that longer input than any file of the format shows a fault. Assumes nothing.
use Rattle.std.specs.Prelude.{Err}
use Rattle.std.specs.Prelude.{ℕ, min, ◌≡◌, List, length, take}
use Rattle.sitting_file.specs.Format.{read_of}
use Rattle.sitting_file.specs.declared.Refusal.{Refusal}
use Rattle.sitting_file.specs.declared.Refusal.TheVariants.{EndsEarly}

-- "The program reads standard input into 4,608 bytes"
abbrev pub input_bytes : ℕ
input_bytes = 4608

-- what reading standard input into a buffer leaves: as many of its first bytes as there are, or as the buffer has
pub record ReadInto (stdin buffer : List ℕ) (many : ℕ) : Type 0 where
  pub count : many ≡ min (length stdin) (length buffer)
  pub bytes : take many buffer ≡ take many stdin

-- "Longer input is judged on its first 4,608 bytes, which always show a fault": the same as the whole file's, and never 13
pub record ShowsFault (file : List ℕ) (bytes : ℕ) : Type 0 where
  pub why : Refusal
  pub whole : read_of file ≡ Err why
  pub first : read_of (take bytes file) ≡ Err why
  pub not_early : why ≡ EndsEarly → ⊥
