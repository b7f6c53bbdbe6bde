-- What each answer says of the file, with no reading in it: the numbers that stand in the file before a place, each within its limits, and
-- what stands at that place. Assumes nothing.
use Rattle.std.specs.Prelude.{Ok, Err}
use Rattle.std.specs.Prelude.{ℕ, ◌+◌, ◌-◌, ◌*◌, ◌/◌, ◌%◌, ◌<◌, ◌≤◌, ◌≡◌, ◌⊎◌, List, [], ◌∷◌, ◌++◌, cond, length, get_or, ltb}
use Rattle.numbers.specs.Limits.{fewest_symbols, most_symbols, deepest, longest}
use Rattle.sitting_file.specs.Format.{high_bit, Reading}
use Rattle.sitting_file.specs.Samples.{InLimits, Below}
use Rattle.sitting_file.specs.declared.Shape.{Shape}
use Rattle.sitting_file.specs.declared.Refusal.{Refusal}
use Rattle.sitting_file.specs.declared.Refusal.TheVariants.{EndsEarly, NotShortest, OutsideLimits, BytesLeft}

-- a file is a list of bytes
abbrev pub Bytes : List ℕ → Type 0
Bytes file = (i : ℕ) → get_or file i 0 < 256

-- two groups of seven bits hold the numbers below this
abbrev pub two_groups : ℕ
two_groups = high_bit * high_bit

-- such a number in its shortest form: one group where that holds it, else two, lowest first
unfoldable pub shortest : ℕ → List ℕ
shortest v = cond (ltb v high_bit) (v ∷ []) ((high_bit + v % high_bit) ∷ v / high_bit ∷ [])

-- numbers in their shortest forms, one after another
abbrev pub written : List ℕ → List ℕ
written [] = []
written (v ∷ vs) = shortest v ++ written vs

-- ---- accepted

abbrev pub with_header : Shape → List ℕ → List ℕ
with_header shape symbols = shape.alphabet ∷ shape.depth ∷ shape.first ∷ shape.second ∷ symbols

-- "The file: A, D, n, m, n symbols, m symbols", each within its limits
pub record OfFormat (file : List ℕ) (shape : Shape) : Type 0 where
  pub symbols : List ℕ
  pub limits : InLimits shape
  pub count : length symbols ≡ shape.first + shape.second
  pub below : Below shape.alphabet symbols
  pub bytes : file ≡ written (with_header shape symbols)

-- ---- refused

-- what is due after some numbers of a file: one more, within limits, or nothing
pub data Due : Type 0 where
  from_to : ℕ → ℕ → Due
  nothing : Due

abbrev pub due_after : List ℕ → Due
due_after [] = from_to fewest_symbols most_symbols
due_after (A ∷ []) = from_to 0 deepest
due_after (A ∷ D ∷ []) = from_to 0 longest
due_after (A ∷ D ∷ n ∷ []) = from_to 0 longest
due_after (A ∷ D ∷ n ∷ m ∷ symbols) = cond (ltb (length symbols) (n + m)) (from_to 0 (A - 1)) nothing

-- a number is due, and v is within its limits
abbrev pub MeetsDue : Due → ℕ → Type 0
MeetsDue (from_to low high) v = (low ≤ v) × (v ≤ high)
MeetsDue nothing v = ⊥

-- the numbers vs, which come after us, are within the limits that the numbers before each of them set
abbrev pub Follow : List ℕ → List ℕ → Type 0
Follow us [] = Unit {0}
Follow us (v ∷ vs) = MeetsDue (due_after us) v × Follow (us ++ v ∷ []) vs

-- 13: "file ends before its last number, header or symbol, is complete": no byte is left, or a first group that goes on
abbrev pub Ends : Due → List ℕ → Type 0
Ends (from_to low high) rest = (rest ≡ []) ⊎ ((b : ℕ) × (high_bit ≤ b) × (rest ≡ b ∷ []))
Ends nothing rest = ⊥

-- 14: "number not in its shortest form, or its second group has the high bit set (judged at that byte)"
abbrev pub NotShort : Due → List ℕ → Type 0
NotShort (from_to low high) rest = (b c : ℕ) × (more : List ℕ) × (high_bit ≤ b) × ((high_bit ≤ c) ⊎ (c ≡ 0)) × (rest ≡ b ∷ c ∷ more)
NotShort nothing rest = ⊥

-- 15: "file value outside its limits": a whole number in its shortest form
abbrev pub Outside : Due → List ℕ → Type 0
Outside (from_to low high) rest = (v : ℕ) × (more : List ℕ) × (v < two_groups) × ((v < low) ⊎ (high < v)) × (rest ≡ shortest v ++ more)
Outside nothing rest = ⊥

-- 16: "bytes after the last symbol"
abbrev pub Left : Due → List ℕ → Type 0
Left (from_to low high) rest = ⊥
Left nothing rest = (b : ℕ) × (more : List ℕ) × (rest ≡ b ∷ more)

-- the fault at a place, by what is due there and the bytes from there on
abbrev pub FaultAt : Refusal → Due → List ℕ → Type 0
FaultAt EndsEarly = Ends
FaultAt NotShortest = NotShort
FaultAt OutsideLimits = Outside
FaultAt BytesLeft = Left

-- "the first fault from the left": every number before its place is whole and within its limits
pub record FaultIn (file : List ℕ) (why : Refusal) : Type 0 where
  pub before : List ℕ
  pub rest : List ℕ
  pub split : file ≡ written before ++ rest
  pub follow : Follow [] before
  pub fault : FaultAt why (due_after before) rest

-- what an answer says of the file
abbrev pub Verdict : List ℕ → Reading → Type 0
Verdict file (Ok shape) = OfFormat file shape
Verdict file (Err why) = FaultIn file why
