-- What is saved of a damaged sitting file, what is told of the rest, and what a salvage answers and leaves (document 02, E12). Assumes nothing.
use Rattle.std.specs.Prelude.{ℕ, ◌+◌, ◌-◌, ◌≤◌, ◌≡◌, true, cond, List, [], ◌∷◌, ◌++◌, ltb, length, take, drop, Result, Ok, Err}
use Rattle.replay.specs.Table.{Line, ◌when◌, Outcome, refused, answered, verdict_of}
use Rattle.sitting_file.specs.Format.{Heading, header_of}
use Rattle.sitting_file.specs.Format as format
use Rattle.sitting_file.specs.declared.Shape.{Shape}
use Rattle.writing.specs.Writing.{Writing, file_of}
use Rattle.salvage.specs.declared.Gone.{Gone}
use Rattle.salvage.specs.declared.Lost.{Lost}
use Rattle.salvage.specs.declared.Refusal.{Refusal}
use Rattle.salvage.specs.declared.Refusal.TheVariants.{Header, BufferShort}
use Rattle.salvage.specs.declared.Salvaged.{Salvaged}

-- ---- what is kept

-- "each sample takes its next n or m bytes as far as they exist": of the bytes after the header, those of the first
abbrev pub first_bytes : Shape → List ℕ → List ℕ
first_bytes shape body = take shape.first body

-- and those of the second, n bytes after the header, however many the first keeps
abbrev pub second_bytes : Shape → List ℕ → List ℕ
second_bytes shape body = take shape.second (drop shape.first body)

-- "and keeps them up to the first byte that is not below A"
unfoldable pub kept_bytes : ℕ → List ℕ → List ℕ
kept_bytes A [] = []
kept_bytes A (b ∷ bs) = cond (ltb b A) (b ∷ kept_bytes A bs) []

-- of each sample
abbrev pub first_kept : Shape → List ℕ → List ℕ
first_kept shape body = kept_bytes shape.alphabet (first_bytes shape body)

abbrev pub second_kept : Shape → List ℕ → List ℕ
second_kept shape body = kept_bytes shape.alphabet (second_bytes shape body)

-- ---- what is lost

-- "For each sample it says how many of the n or m bytes did not exist and how many that did exist were dropped"
abbrev pub gone_of : ℕ → ℕ → List ℕ → Gone
gone_of A wanted bytes = record { missing = wanted - length bytes; dropped = length bytes - length (kept_bytes A bytes) }

-- "for the file, how many bytes after both samples were cut off"
abbrev pub cut_off : Shape → List ℕ → ℕ
cut_off shape body = length (drop (shape.first + shape.second) body)

-- the five numbers in their order: missing and dropped of the first, of the second, cut off
abbrev pub loss_numbers : Lost → List ℕ
loss_numbers lost = lost.first.missing ∷ lost.first.dropped ∷ lost.second.missing ∷ lost.second.dropped ∷ lost.cut ∷ []

-- ---- the answer

-- the file that is written, and what is told
pub record Saved : Type 0 where
  pub file : List ℕ
  pub lost : Lost

-- by the bytes of each sample and how many are cut off: "The tool writes a valid file with the shorter lengths."
abbrev pub saved_from : Shape → List ℕ → List ℕ → ℕ → Saved
saved_from shape xs ys cut = record {
  file = file_of shape.alphabet shape.depth (kept_bytes shape.alphabet xs) (kept_bytes shape.alphabet ys);
  lost = record { first = gone_of shape.alphabet shape.first xs; second = gone_of shape.alphabet shape.second ys; cut = cut };
}

-- of the bytes after the header
abbrev pub saved_of : Shape → List ℕ → Saved
saved_of shape body = saved_from shape (first_bytes shape body) (second_bytes shape body) (cut_off shape body)

-- "13 to 15 for the header, then 19 for a short buffer": of so many bytes
abbrev pub salvage_lines : Heading → List ℕ → ℕ → List Line
salvage_lines (Err why) damaged room = format.refusal_number why when true ∷ []
salvage_lines (Ok (shape, at)) damaged room = 19 when ltb room (length (saved_of shape (drop at damaged)).file) ∷ []

-- "A header of four numbers that cannot be read within limits is refused as the reader does"; otherwise what is saved of the bytes after it
unfoldable pub salvage_of : Heading → List ℕ → ℕ → Outcome Saved
salvage_of (Err why) damaged room = refused (format.refusal_number why)
salvage_of (Ok (shape, at)) damaged room = verdict_of (salvage_lines (Ok (shape, at)) damaged room) (saved_of shape (drop at damaged))

-- the documents' number of each refusal
abbrev pub refusal_number : Refusal → ℕ
refusal_number (Header why) = format.refusal_number why
refusal_number BufferShort = 19

-- the answer to a salvage: what is salvaged, or why nothing is
abbrev pub Salvaging : Type 0
Salvaging = Result Salvaged Refusal

-- the answer where the writer's to what is kept is this: it refuses too few bytes alone
abbrev pub salvaged_by : Writing → Lost → Salvaging
salvaged_by (Ok size) lost = Ok (record { size = size; lost = lost })
salvaged_by (Err why) lost = Err BufferShort

-- what an answer says beside the bytes that were left: the file at their start and what is lost, or the refusal's number
abbrev pub salvage_outcome : Salvaging → List ℕ → Outcome Saved
salvage_outcome (Ok done) after = answered (record { file = take done.size after; lost = done.lost })
salvage_outcome (Err why) after = refused (refusal_number why)

-- so many bytes are there, so that an answer tells one size only
abbrev pub Within : Salvaging → List ℕ → Type 0
Within (Ok done) after = done.size ≤ length after
Within (Err why) after = Unit {0}

-- a salvage of the bytes `damaged` into the bytes `before`, which leaves `after`
pub record Salvages (damaged before : List ℕ) (o : Outcome Saved) (after : List ℕ) : Type 0 where
  pub answers : o ≡ salvage_of (header_of damaged) damaged (length before)
  -- the file stands at the start, and the bytes past its end stay
  pub file_written : (s : Saved) → o ≡ answered s → after ≡ s.file ++ drop (length s.file) before
  -- a refused call leaves every byte
  pub refused_stays : (n : ℕ) → o ≡ refused n → after ≡ before
