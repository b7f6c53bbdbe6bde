-- What is held among the records: where a key stands, whether a record has it, what is counted under it, and which records are a desk's.
-- Assumes nothing.
use Rattle.std.specs.Prelude.{◌≡◌, Bool, false, cond, not, ◌||◌, List, [], ◌∷◌, ℕ, zero, suc, ◌*◌, ◌≤◌, ◌<◌, length, take, drop, T, ltb, eqb}
use Rattle.numbers.specs.Limits.{desks}
use Rattle.contexts.specs.Keys.{desk_of}
use Rattle.contexts.specs.Sitting.{Sample, first, second}
use Rattle.records.specs.Records.{width, records, key, keys, counts_of, count_of, rises, lookup}

-- where a key stands among rising keys, or would stand: how many of them come before it
unfoldable pub rank : ℕ → List ℕ → ℕ
rank k [] = zero
rank k (x ∷ ks) = cond (ltb x k) (suc (rank k ks)) zero

-- whether a record has the key
unfoldable pub held : ℕ → List (List ℕ) → Bool
held k [] = false
held k (r ∷ rs) = eqb (key r) k || held k rs

-- the record at a place
abbrev pub record_at : ℕ → List ℕ → List ℕ
record_at p l = take width (drop (width * p) l)

-- "a table of two samples by eight symbols": a record's counts
abbrev pub count_table : List ℕ → List (List ℕ)
count_table r = counts_of first r ∷ counts_of second r ∷ []

-- N(s,a) of a sample as it stands under a key, and 0 where no record has it
abbrev pub count_at : ℕ → Sample → ℕ → List (List ℕ) → ℕ
count_at k i a rs = count_of i (lookup k rs) a

-- the records whose key passes a test
unfoldable pub keep : (ℕ → Bool) → List (List ℕ) → List (List ℕ)
keep p [] = []
keep p (r ∷ rs) = cond (p (key r)) (r ∷ keep p rs) (keep p rs)

-- whether a key is that of a desk's context
abbrev pub of_desk : ℕ → ℕ → Bool
of_desk d k = eqb (desk_of k) d

-- the records that are not the desk's
abbrev pub without : ℕ → List (List ℕ) → List (List ℕ)
without d = keep (λ k. not (of_desk d k))

-- the keys rise strictly
abbrev pub Rising : List (List ℕ) → Type 0
Rising rs = T (rises 0 (keys rs))

-- every record has all its numbers
abbrev pub Wide : List (List ℕ) → Type 0
Wide [] = Unit {0}
Wide (r ∷ rs) = (length r ≡ width) × Wide rs

-- n records stand in a list of numbers, their keys rising
pub record Standing (n : ℕ) (l : List ℕ) : Type 0 where
  pub fits : width * n ≤ length l
  pub rising : Rising (records n l)

-- what taking out a desk's records asks
pub record Removable (d n : ℕ) (l : List ℕ) : Type 0 where
  pub standing : Standing n l
  pub desk : d < desks

-- r is the place of a key among the first n records
pub record Placed (k n r : ℕ) (l : List ℕ) : Type 0 where
  pub at : r ≡ rank k (keys (records n l))
  pub within : r ≤ n

-- a key's place among the first n records is from low to high
pub record Bounded (k n low high : ℕ) (l : List ℕ) : Type 0 where
  pub standing : Standing n l
  pub from_low : low ≤ rank k (keys (records n l))
  pub to_high : rank k (keys (records n l)) ≤ high
  pub inside : high ≤ n

-- .. and no earlier than a place
pub record Onward (k n from : ℕ) (l : List ℕ) : Type 0 where
  pub standing : Standing n l
  pub no_later : from ≤ rank k (keys (records n l))
