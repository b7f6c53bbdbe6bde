-- One more count under a key, and what a function that writes records promises of the numbers. Assumes nothing.
use Rattle.std.specs.Prelude.{◌≡◌, cond, List, [], ◌∷◌, ℕ, ◌+◌, ◌*◌, ◌≤◌, ◌<◌, drop, get_or, set, ltb, eqb}
use Rattle.contexts.specs.Sitting.{Sample}
use Rattle.records.specs.Records.{width, records, key, start_of, blank}

-- where the count of symbol a in sample i stands in a record
abbrev pub cell_of : Sample → ℕ → ℕ
cell_of i a = start_of i + a

-- a record with one more at a cell
abbrev pub raised : ℕ → List ℕ → List ℕ
raised c r = set r c (get_or r c 0 + 1)

-- the record under key k gets one more at a cell, or a blank one with that count is put in its place in the order
unfoldable pub bumped_at : ℕ → ℕ → List (List ℕ) → List (List ℕ)
bumped_at k c [] = raised c (blank k) ∷ []
bumped_at k c (r ∷ rs) =
    cond (ltb (key r) k) (r ∷ bumped_at k c rs) (cond (eqb (key r) k) (raised c r ∷ rs) (raised c (blank k) ∷ r ∷ rs))

-- the record under key k gets one more of symbol a in sample i
abbrev pub bumped : ℕ → Sample → ℕ → List (List ℕ) → List (List ℕ)
bumped k i a = bumped_at k (cell_of i a)

-- what a function that leaves m records promises: they are `rs`, and every number from their end on is as before
pub record Written (rs : List (List ℕ)) (m : ℕ) (before after : List ℕ) : Type 0 where
  pub live : records m after ≡ rs
  pub past : drop (width * m) after ≡ drop (width * m) before

-- a cell of a record, past its key
pub record Cell (c : ℕ) : Type 0 where
  pub after_key : 1 ≤ c
  pub inside : c < width
