-- The reader of sitting files as a program over the list of the file's bytes: document 01, 'Sitting file and program' and refusals 13 to 16.
-- "the first fault from the left, a number being judged when it has been read whole; of two faults of one number, the lower". Assumes nothing.
use Rattle.std.specs.Prelude.{ℕ, zero, suc, ◌+◌, ◌-◌, ◌*◌, List, [], ◌∷◌, Bool, cond, ◌&&◌, ◌||◌, length, drop, ltb, leb, eqb, Result, Ok, Err}
use Rattle.numbers.specs.Limits.{fewest_symbols, most_symbols, deepest, longest}
use Rattle.sitting_file.specs.declared.Shape.{Shape}
use Rattle.sitting_file.specs.declared.Refusal.{Refusal}
use Rattle.sitting_file.specs.declared.Refusal.TheVariants.{EndsEarly, NotShortest, OutsideLimits, BytesLeft}

-- the answer to a file: what it announces, or why it is refused
abbrev pub Reading : Type 0
Reading = Result Shape Refusal

-- the four numbers of a header with the place after them, or the first fault in them
abbrev pub Heading : Type 0
Heading = Result (Shape × ℕ) Refusal

-- a number with the place after it, or its fault
abbrev pub Number : Type 0
Number = Result (ℕ × ℕ) Refusal

-- document 01's number of each refusal
abbrev pub refusal_number : Refusal → ℕ
refusal_number EndsEarly = 13
refusal_number NotShortest = 14
refusal_number OutsideLimits = 15
refusal_number BytesLeft = 16

-- what the high bit of a byte stands for, above the seven bits of its group
abbrev pub high_bit : ℕ
high_bit = 128

-- "high bit set where another group follows"
abbrev pub group_follows : ℕ → Bool
group_follows b = leb high_bit b

-- "groups of seven bits, lowest first": the number of a first group that goes on and a second that does not
abbrev pub groups_joined : ℕ → ℕ → ℕ
groups_joined b c = b - high_bit + high_bit * c

-- a number that has been read whole, judged by its limits, with the place after it
unfoldable pub judged_number : ℕ → ℕ → ℕ → ℕ → Number
judged_number low high v next = cond (leb low v && leb v high) (Ok (v, next)) (Err OutsideLimits)

-- the second group, judged at that byte: it ends the number, and is not 0
unfoldable pub second_group : ℕ → ℕ → ℕ → ℕ → List ℕ → Number
second_group low high b at [] = Err EndsEarly
second_group low high b at (c ∷ rest) = cond (group_follows c || eqb c 0) (Err NotShortest) (judged_number low high (groups_joined b c) (at + 1))

-- the number that the bytes from a place on begin with
unfoldable pub first_group : ℕ → ℕ → ℕ → List ℕ → Number
first_group low high at [] = Err EndsEarly
first_group low high at (b ∷ rest) = cond (group_follows b) (second_group low high b (at + 1) rest) (judged_number low high b (at + 1))

-- the number, low to high, that stands at a place of the file
abbrev pub number_at : List ℕ → ℕ → ℕ → ℕ → Number
number_at file at low high = first_group low high at (drop at file)

-- goes on with the number and the place after it, or stops at the fault
abbrev pub and_then : {R : Type 0} → Number → (Refusal → R) → (ℕ → ℕ → R) → R
and_then (Ok (v, next)) stop go = go v next
and_then (Err why) stop go = stop why

-- "The file: A, D, n, m", with the place after them, by a reader that takes samples of up to `limit` symbols
unfoldable pub header_up_to : ℕ → List ℕ → Heading
header_up_to limit file =
    and_then (number_at file 0 fewest_symbols most_symbols) Err λ A at₁.
    and_then (number_at file at₁ 0 deepest) Err λ D at₂.
    and_then (number_at file at₂ 0 limit) Err λ n at₃.
    and_then (number_at file at₃ 0 limit) Err λ m at₄.
    Ok (record { alphabet = A; depth = D; first = n; second = m }, at₄)

-- by the sample limit of this reader
abbrev pub header_of : List ℕ → Heading
header_of file = header_up_to longest file

-- "n symbols, m symbols": as many as are left, each below A, and nothing after them
unfoldable pub symbols_from : List ℕ → Shape → ℕ → ℕ → Reading
symbols_from file shape zero at = cond (ltb at (length file)) (Err BytesLeft) (Ok shape)
symbols_from file shape (suc left) at = and_then (number_at file at 0 (shape.alphabet - 1)) Err λ _ next. symbols_from file shape left next

-- what follows the header
unfoldable pub body_of : List ℕ → Heading → Reading
body_of file (Ok (shape, at)) = symbols_from file shape (shape.first + shape.second) at
body_of file (Err why) = Err why

-- the answer to a file, by a reader of any sample limit and by this one
abbrev pub read_up_to : ℕ → List ℕ → Reading
read_up_to limit file = body_of file (header_up_to limit file)

abbrev pub read_of : List ℕ → Reading
read_of file = read_up_to longest file
