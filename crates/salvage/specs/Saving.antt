-- What document 02, E12, says of every salvage, and what follows. Proved in proofs/Saving, Sound, OnlySound, Refusing and Longer. Assumes nothing.
use Rattle.std.specs.Prelude.{ℕ, ◌+◌, ◌-◌, ◌≤◌, ◌≡◌, ◌⊎◌, List, ◌++◌, length, take, drop, Ok, Err}
use Rattle.replay.specs.Table.{Outcome, refused, answered}
use Rattle.sitting_file.specs.Format.{header_of, read_of}
use Rattle.sitting_file.specs.Format as format
use Rattle.sitting_file.specs.Input.{input_bytes}
use Rattle.sitting_file.specs.Samples.{Below, longest_file}
use Rattle.sitting_file.specs.Verdict.{Bytes}
use Rattle.sitting_file.specs.declared.Shape.{Shape}
use Rattle.sitting_file.specs.declared.Refusal as file
use Rattle.sitting_file.specs.declared.Refusal.TheVariants.{BytesLeft}
use Rattle.writing.specs.RoundTrips.{ReadsAs}
use Rattle.salvage.specs.Salvage.{first_bytes, second_bytes, Saved, salvage_of, Salvages}
use Rattle.salvage.specs.declared.Lost.{Lost}

-- ---- what is saved

-- "Each sample's kept symbols are a beginning of its bytes", below A, and no longer one is
pub record Beginning (A : ℕ) (bytes kept : List ℕ) : Type 0 where
  pub rest : List ℕ
  pub split : bytes ≡ kept ++ rest
  pub below : Below A kept
  pub none_longer : (other more : List ℕ) → bytes ≡ other ++ more → Below A other → length other ≤ length kept

-- an accepted salvage that left `after`: the header, and the two kept samples
pub record Saves (damaged : List ℕ) (s : Saved) (after : List ℕ) : Type 0 where
  pub shape : Shape
  pub place : ℕ
  pub header : header_of damaged ≡ Ok (shape, place)
  pub first : List ℕ
  pub second : List ℕ
  -- "The tool writes a valid file with the shorter lengths": the reader accepts it, with the same A and D
  pub valid : ReadsAs (take (length s.file) after) shape.alphabet shape.depth first second
  -- "a beginning of its bytes in the damaged file"
  pub first_begins : Beginning shape.alphabet (first_bytes shape (drop place damaged)) first
  pub second_begins : Beginning shape.alphabet (second_bytes shape (drop place damaged)) second
  -- "and with the missing and the dropped they make n or m"
  pub first_whole : length first + s.lost.first.missing + s.lost.first.dropped ≡ shape.first
  pub second_whole : length second + s.lost.second.missing + s.lost.second.dropped ≡ shape.second
  -- every byte behind the header is kept, dropped or cut off
  pub every_byte : place + (length first + s.lost.first.dropped) + (length second + s.lost.second.dropped) + s.lost.cut ≡ length damaged

abbrev pub EachSaves : Type 0
EachSaves = (damaged before after : List ℕ) (s : Saved) → Salvages damaged before (answered s) after → Saves damaged s after

-- ---- a sound file

abbrev pub nothing_lost : Lost
nothing_lost = record { first = record { missing = 0; dropped = 0 }; second = record { missing = 0; dropped = 0 }; cut = 0 }

-- "A sound file comes out the same, with zeros.", wherever as many bytes are lent
abbrev pub SoundSame : Type 0
SoundSame = (file : List ℕ) (shape : Shape) → Bytes file → read_of file ≡ Ok shape
    → (before after : List ℕ) (o : Outcome Saved) → length file ≤ length before → Salvages file before o after
    → (o ≡ answered (record { file = file; lost = nothing_lost })) × (after ≡ file ++ drop (length file) before)

-- and no other file comes out with zeros
abbrev pub OnlySound : Type 0
OnlySound = (damaged before after : List ℕ) (s : Saved) → Bytes damaged → Salvages damaged before (answered s) after → s.lost ≡ nothing_lost
    → (s.file ≡ damaged) × ((shape : Shape) × (read_of damaged ≡ Ok shape))

-- ---- refusals

-- an answer to a file with such a fault in its header: the number that the reader gives the file, which is not 16
pub record RefusedAsRead (damaged : List ℕ) (why : file.Refusal) (o : Outcome Saved) : Type 0 where
  pub same_number : o ≡ refused (format.refusal_number why)
  pub read_so : read_of damaged ≡ Err why
  pub not_16 : why ≡ BytesLeft → ⊥

-- "A header of four numbers that cannot be read within limits is refused as the reader does"
abbrev pub AsTheReader : Type 0
AsTheReader = (damaged before after : List ℕ) (o : Outcome Saved) → Salvages damaged before o after → (why : file.Refusal) → header_of damaged ≡ Err why → RefusedAsRead damaged why o

-- "13 to 15 for the header, then 19": a refusal is the header's fault, or 19
abbrev pub NoOther : Type 0
NoOther = (damaged before after : List ℕ) (n : ℕ) → Salvages damaged before (refused n) after → ((why : file.Refusal) × (header_of damaged ≡ Err why) × (n ≡ format.refusal_number why)) ⊎ (n ≡ 19)

-- as many bytes as the damaged file has are never too few
abbrev pub NeverLonger : Type 0
NeverLonger = (damaged before after : List ℕ) (o : Outcome Saved) → Bytes damaged → length damaged ≤ length before → Salvages damaged before o after → o ≡ refused 19 → ⊥

-- nor are as many as the longest file of the format has
abbrev pub LongestEnough : Type 0
LongestEnough = (damaged : List ℕ) (room : ℕ) → longest_file ≤ room → salvage_of (header_of damaged) damaged room ≡ refused 19 → ⊥

-- ---- long input

-- the same, with so many more bytes cut off
abbrev pub lost_more : ℕ → Lost → Lost
lost_more k lost = record { first = lost.first; second = lost.second; cut = lost.cut + k }

abbrev pub cut_more : ℕ → Outcome Saved → Outcome Saved
cut_more k (answered s) = answered (record { file = s.file; lost = lost_more k s.lost })
cut_more k (refused n) = refused n

-- a file and as many of its first bytes as a program reads differ in what is cut off alone, and by as many bytes as follow
abbrev pub FirstBytesSave : Type 0
FirstBytesSave = (damaged : List ℕ) (room : ℕ) → input_bytes ≤ length damaged
    → salvage_of (header_of damaged) damaged room ≡ cut_more (length damaged - input_bytes) (salvage_of (header_of (take input_bytes damaged)) (take input_bytes damaged) room)
