-- Writing and reading undo each other, and bytes that are always enough (document 02, E1). Proved in proofs/RoundTrip. Assumes nothing.
use Rattle.std.specs.Prelude.{ℕ, ◌+◌, ◌≤◌, ◌≡◌, List, ◌++◌, length, take, drop, Ok}
use Rattle.replay.specs.Table.{Outcome, refused, answered}
use Rattle.sitting_file.specs.Format.{read_of}
use Rattle.sitting_file.specs.Samples.{first_of, second_of, longest_header}
use Rattle.sitting_file.specs.Verdict.{Bytes}
use Rattle.sitting_file.specs.declared.Shape.{Shape}
use Rattle.writing.specs.Writing.{shape_of, WritesFile}

-- the file is accepted, with this A and D and these two samples
pub record ReadsAs (file : List ℕ) (A D : ℕ) (xs ys : List ℕ) : Type 0 where
  pub accepted : read_of file ≡ Ok (shape_of A D xs ys)
  pub its_first : first_of file (shape_of A D xs ys) ≡ xs
  pub its_second : second_of file (shape_of A D xs ys) ≡ ys

-- "What is written reads back as the same sitting"
abbrev pub ReadsBack : Type 0
ReadsBack = (A D : ℕ) (xs ys before after : List ℕ) (n : ℕ) → WritesFile A D xs ys before (answered n) after → ReadsAs (take n after) A D xs ys

-- the same bytes stand at the start, and those past them stay
pub record SameAgain (file before : List ℕ) (o : Outcome ℕ) (after : List ℕ) : Type 0 where
  pub whole : o ≡ answered (length file)
  pub same_bytes : after ≡ file ++ drop (length file) before

-- "any accepted file written again has the same bytes", wherever as many bytes are lent
abbrev pub WritesBack : Type 0
WritesBack = (file : List ℕ) (shape : Shape) → Bytes file → read_of file ≡ Ok shape
    → (before after : List ℕ) (o : Outcome ℕ) → length file ≤ length before
    → WritesFile shape.alphabet shape.depth (first_of file shape) (second_of file shape) before o after → SameAgain file before o after

-- as many bytes as the samples have symbols, and a header's at its longest, are never too few
abbrev pub NeverShort : Type 0
NeverShort = (A D : ℕ) (xs ys before after : List ℕ) (o : Outcome ℕ) → longest_header + (length xs + length ys) ≤ length before
    → WritesFile A D xs ys before o after → o ≡ refused 19 → ⊥
