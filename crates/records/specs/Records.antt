-- The records of a store: a flat list of numbers read as records of 24 numbers each, in one dense run, strictly rising in key.
-- A record is the key of a held context, eight counts of the first sample, eight of the second, and seven spare numbers. Assumes nothing.
use Rattle.std.specs.Prelude.{Bool, true, cond, ◌&&◌, List, [], ◌∷◌, map, ℕ, zero, suc, take, drop, get_or, replicate, leb, eqb}
use Rattle.numbers.specs.Limits.{most_symbols}
use Rattle.contexts.specs.Sitting.{Sample, first, second}

-- how many numbers a record has
abbrev pub width : ℕ
width = 24

-- the first n parts of w numbers each
unfoldable pub parts : ℕ → ℕ → List ℕ → List (List ℕ)
parts w zero l = []
parts w (suc n) l = take w l ∷ parts w n (drop w l)

-- the first n records of a list
abbrev pub records : ℕ → List ℕ → List (List ℕ)
records = parts width

-- a record's key is its first number
abbrev pub key : List ℕ → ℕ
key r = get_or r 0 0

abbrev pub keys : List (List ℕ) → List ℕ
keys = map key

-- where a sample's eight counts begin
abbrev pub start_of : Sample → ℕ
start_of first = 1
start_of second = 9

-- a record's counts of a sample
abbrev pub counts_of : Sample → List ℕ → List ℕ
counts_of i r = take most_symbols (drop (start_of i) r)

-- .. and its count of one symbol
abbrev pub count_of : Sample → List ℕ → ℕ → ℕ
count_of i r a = get_or (counts_of i r) a 0

-- the keys rise strictly, and none is below lo
unfoldable pub rises : ℕ → List ℕ → Bool
rises lo [] = true
rises lo (k ∷ ks) = leb lo k && rises (suc k) ks

-- a record with no count
abbrev pub blank : ℕ → List ℕ
blank k = k ∷ replicate 23 0

-- what stands under a key: its record, or a blank one
unfoldable pub lookup : ℕ → List (List ℕ) → List ℕ
lookup k [] = blank k
lookup k (r ∷ rs) = cond (eqb (key r) k) r (lookup k rs)
