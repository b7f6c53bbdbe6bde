-- What a row of eight counts adds up to, as std's `sum` has it. Assumes nothing.
use Rattle.std.proofs.Common.{◌≡◌, ℕ, List, [], ◌∷◌, length, arith}
use Rattle.std.specs.List as list
use Rattle.numbers.specs.Limits.{most_symbols}
use Rattle.numbers.specs.Sum.{sum}
use Rattle.contexts.specs.Sitting.{sum_of}

pub sum_row : (row : List ℕ) → length row ≡ most_symbols → list.sum row ≡ sum_of row
unfolding sum
sum_row (a ∷ b ∷ c ∷ d ∷ e ∷ f ∷ g ∷ h ∷ []) l = omega arith
sum_row (a ∷ b ∷ c ∷ d ∷ e ∷ f ∷ g ∷ h ∷ i ∷ r) l = absurd (omega arith)
sum_row (a ∷ b ∷ c ∷ d ∷ e ∷ f ∷ g ∷ []) l = absurd (omega arith)
sum_row (a ∷ b ∷ c ∷ d ∷ e ∷ f ∷ []) l = absurd (omega arith)
sum_row (a ∷ b ∷ c ∷ d ∷ e ∷ []) l = absurd (omega arith)
sum_row (a ∷ b ∷ c ∷ d ∷ []) l = absurd (omega arith)
sum_row (a ∷ b ∷ c ∷ []) l = absurd (omega arith)
sum_row (a ∷ b ∷ []) l = absurd (omega arith)
sum_row (a ∷ []) l = absurd (omega arith)
sum_row [] l = absurd (omega arith)
