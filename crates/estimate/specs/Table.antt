-- "The counts of one context are a table of two samples by eight symbols": what the code of losses works on. Assumes nothing.
use Rattle.std.specs.Prelude.{ℕ, ◌+◌, ◌*◌, ◌≡◌, List}
use Rattle.numbers.specs.Limits.{most_symbols, most_weight, most_counted, top_log}
use Rattle.contexts.specs.Sitting.{first, second, count_in}
use Rattle.estimate.specs.Trees.{Kind, shared, own}
use Rattle.estimate.specs.Score.{of_kind, fit_times, cost}
use Rattle.estimate.specs.Recursion.{spread}
use Rattle.estimate.specs.declared.ByKind.{ByKind}

-- the counts of the table's context as one of a kind
abbrev pub counts_in : List (List ℕ) → Kind → ℕ → ℕ
counts_in t k a = of_kind k (λ i. count_in t i a)

-- the number that stands for a kind
abbrev pub for_kind : ByKind → Kind → ℕ
for_kind b shared = b.shared
for_kind b (own first) = b.first
for_kind b (own second) = b.second

-- what a context of each kind costs at a weight, where the samples have n and m symbols
pub record CostsOf (weight A n m : ℕ) (r : ByKind) : Type 0 where
  pub shared : r.shared ≡ cost weight A (n + m)
  pub first : r.first ≡ cost weight A n
  pub second : r.second ≡ cost weight A m

-- no context costs more than this, and no fit takes away more
abbrev pub most_cost : ℕ
most_cost = most_weight * (most_symbols * top_log)

abbrev pub most_spread : ℕ
most_spread = fit_times * (most_counted * top_log)

-- what the table's context loses as one of each kind
pub record LossesOf (t : List (List ℕ)) (costs r : ByKind) : Type 0 where
  pub shared : r.shared ≡ costs.shared + spread most_symbols (counts_in t shared)
  pub first : r.first ≡ costs.first + spread most_symbols (counts_in t (own first))
  pub second : r.second ≡ costs.second + spread most_symbols (counts_in t (own second))
