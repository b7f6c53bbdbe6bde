-- `estimate::added` meets its contract: the symbols passed have both counts, the others still the first's. Assumes nothing.
use Rattle.std.proofs.Common.{◌≡◌, List, ℕ, ◌+◌, ◌≤◌, ◌<◌, length, get_or}
use Rattle.numbers.specs.Limits.{most_symbols}
use Rattle.contexts.specs.Sitting.{first, second, count_in}
use Rattle.estimate.proofs.added.Given as goal

-- both counts of each symbol below a, and the first's from there on
pub record Both (a : ℕ) (t : List (List ℕ)) (l : List ℕ) : Type 0 where
  pub long : length l ≡ most_symbols
  pub done : (b : ℕ) → b < a → get_or l b 0 ≡ count_in t first b + count_in t second b
  pub rest : (b : ℕ) → a ≤ b → get_or l b 0 ≡ count_in t first b

abbrev pub invariant-loop-a : goal.invariant-loop-a
invariant-loop-a l = Both l.a l.counts l.both
