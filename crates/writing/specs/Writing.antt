-- A sitting's file, and what its writing answers and leaves (document 02, E1). Assumes nothing.
use Rattle.std.specs.Prelude.{ℕ, ◌≡◌, Bool, not, ◌&&◌, List, [], ◌∷◌, ◌++◌, leb, ltb, length, drop, Result, Ok, Err}
use Rattle.std.specs.List.{list_all}
use Rattle.numbers.specs.Limits.{fewest_symbols, most_symbols, deepest, longest}
use Rattle.replay.specs.Table.{Line, ◌when◌, Outcome, refused, answered, verdict_of}
use Rattle.sitting_file.specs.Verdict.{written, with_header}
use Rattle.sitting_file.specs.declared.Shape.{Shape}
use Rattle.writing.specs.declared.Refusal.{Refusal}
use Rattle.writing.specs.declared.Refusal.TheVariants.{BadValues, BufferShort}

-- A and D, and the lengths of two samples
abbrev pub shape_of : ℕ → ℕ → List ℕ → List ℕ → Shape
shape_of A D xs ys = record { alphabet = A; depth = D; first = length xs; second = length ys }

-- "a sitting file from two samples, A and D .. always in shortest form"
abbrev pub file_of : ℕ → ℕ → List ℕ → List ℕ → List ℕ
file_of A D xs ys = written (with_header (shape_of A D xs ys) (xs ++ ys))

-- each symbol of a sample is below A
abbrev pub all_below : ℕ → List ℕ → Bool
all_below A xs = list_all (λ a. ltb a A) xs

-- A, D, the lengths and the symbols are within document 01's limits
unfoldable pub good_values : ℕ → ℕ → List ℕ → List ℕ → Bool
good_values A D xs ys =
    leb fewest_symbols A
    && (leb A most_symbols
    && (leb D deepest
    && (leb (length xs) longest
    && (leb (length ys) longest
    && (all_below A xs && all_below A ys)))))

-- "bad values get 15; a buffer too short gets 19, after 15": a buffer of so many bytes
abbrev pub writing_lines : ℕ → ℕ → List ℕ → List ℕ → ℕ → List Line
writing_lines A D xs ys room = 15 when not (good_values A D xs ys) ∷ 19 when ltb room (length (file_of A D xs ys)) ∷ []

-- the answer to a writing: how many bytes the file has, or why it is not written
abbrev pub Writing : Type 0
Writing = Result ℕ Refusal

-- document 02's number of each refusal
abbrev pub refusal_number : Refusal → ℕ
refusal_number BadValues = 15
refusal_number BufferShort = 19

-- what an answer says: the file's length, or the refusal's number
abbrev pub writing_outcome : Writing → Outcome ℕ
writing_outcome (Ok n) = answered n
writing_outcome (Err why) = refused (refusal_number why)

-- a writing into the bytes `before`, which answers the file's length or is refused, and leaves `after`
pub record WritesFile (A D : ℕ) (xs ys before : List ℕ) (o : Outcome ℕ) (after : List ℕ) : Type 0 where
  pub answers : o ≡ verdict_of (writing_lines A D xs ys (length before)) (length (file_of A D xs ys))
  -- "Bytes past the end of the file stay."
  pub file_written : (n : ℕ) → o ≡ answered n → after ≡ file_of A D xs ys ++ drop n before
  -- a refused call leaves every byte
  pub refused_stays : (n : ℕ) → o ≡ refused n → after ≡ before
