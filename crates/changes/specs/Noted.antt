-- What a feed writes in the header. Assumes nothing.
use Rattle.std.specs.Prelude.{ℕ, ◌+◌, ◌≤◌, ◌<◌, List, length, take, drop, get_or, set}
use Rattle.std.proofs.lemmas.List.Edits.{sets}
use Rattle.numbers.specs.Limits.{deepest}
use Rattle.store.specs.Layout.{header_size}
use Rattle.changes.specs.FedStore.{shifted}

-- m records are in use, the length at place z is one more, and symbol a is the first of the six recent symbols from place y on
abbrev pub noted : ℕ → ℕ → ℕ → ℕ → List ℕ → List ℕ
noted m z y a l = sets (set (set l 1 m) z (get_or l z 0 + 1)) y (shifted a (take deepest (drop y l)))

-- the two places are in the header, in this order
pub record Places (z y : ℕ) (l : List ℕ) : Type 0 where
  pub past_used : 1 < z
  pub in_order : z < y
  pub in_header : y + deepest ≤ header_size
  pub long : header_size ≤ length l
