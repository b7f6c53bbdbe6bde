-- The two parts of a feed's writing: the records of the contexts that are held are raised, and those of the missing ones are put in. Assumes nothing.
use Rattle.std.specs.Prelude.{List, ◌++◌, ℕ, zero, suc, ◌+◌, ◌-◌, ◌*◌, ◌≤◌, ◌<◌, length, take, drop, get_or, T}
use Rattle.numbers.specs.Limits.{most_symbols, deepest, longest, desks}
use Rattle.contexts.specs.Context.{is_context}
use Rattle.records.specs.Records.{width}
use Rattle.records.specs.Bumped.{raised, Cell}
use Rattle.records.specs.Fed.{fresh}

-- one more at cell c of the records at the first j of these places
unfoldable pub raised_each : ℕ → ℕ → List ℕ → List ℕ → List ℕ
raised_each zero c places l = l
raised_each (suc j) c places l = raised (width * get_or places j 0 + c) (raised_each j c places l)

-- what that asks: each of these counts stands in the numbers, and is not above a sample's longest when its turn comes
pub record Raisable (m c : ℕ) (places l : List ℕ) : Type 0 where
  pub few : m ≤ deepest + 1
  pub there : (j : ℕ) → j < m → width * get_or places j 0 + c < length l
  pub small : (j : ℕ) → j < m → get_or (raised_each j c places l) (width * get_or places j 0 + c) 0 ≤ longest

-- the records of the contexts from length m on put in at place p, each with one count at cell c
abbrev pub with_missing : ℕ → List ℕ → ℕ → ℕ → ℕ → List (List ℕ) → List (List ℕ)
with_missing d recent m p c rs = take p rs ++ (fresh (length recent + 1 - m) m d recent c ++ drop p rs)

-- what that asks: that there are some, a place among the n records, and room behind them
pub record Growable (d : ℕ) (recent : List ℕ) (m p c n : ℕ) (l : List ℕ) : Type 0 where
  pub desk : d < desks
  pub context : T (is_context most_symbols deepest recent)
  pub some : m ≤ length recent
  pub cell : Cell c
  pub place : p ≤ n
  pub room : width * (n + (length recent + 1 - m)) ≤ length l
