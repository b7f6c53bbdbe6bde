-- The chart of document 01's J2 and J5, worked out. Both have depth 1, so that the first place of each sample is not counted (document 02, E3).
-- Assumes nothing.
use mathlib.Core.Path.{◌≡◌, refl}
use mathlib.Core.Bool.{true, false}
use mathlib.Core.List.{List, [], ◌∷◌}
use Prim.Native.Nat.{ℕ}
use lib.IntN.{negsuc}
use lib.Ieee.{Float, fin, div, of_int, sub}
use Rattle.numbers.specs.Limits.{plain_weight}
use Rattle.numbers.specs.Sum.{sum}
use Rattle.contexts.specs.Counts.{N}
use Rattle.contexts.specs.Sitting.{Sample, first, second, Sitting, sitting_of}
use Rattle.chart.specs.Share.{one64}
use Rattle.chart.specs.Answer.{answer, chart_of}
use Rattle.chart.specs.declared.Chart.TheVariants.{Neither, First, Both}

-- 0101 and 0000, most recent symbol first
abbrev past_j2 : Sample → List ℕ
past_j2 first = 1 ∷ 0 ∷ 1 ∷ 0 ∷ []
past_j2 second = 0 ∷ 0 ∷ 0 ∷ 0 ∷ []

abbrev J2 : Sitting
J2 = sitting_of 2 1 plain_weight 1 past_j2

abbrev J5 : Sitting
J5 = sitting_of 2 1 plain_weight 1 (λ i. 0 ∷ [])

-- the nearest numbers to 1/3, and to that less 1
abbrev third : Float
third = fin false 6004799503160661 (negsuc 53)

abbrev less_two_thirds : Float
less_two_thirds = fin true 3002399751580331 (negsuc 51)

-- the empty context: symbol 0 has 1 of 3 and 3 of 3 (with the first places it had 2 of 4 and 4 of 4)
pub J2_empty : chart_of J2 [] 0 ≡ Both (record { first = third; second = one64; gap = less_two_thirds })
unfolding answer N sum div of_int sub
J2_empty = refl

-- the context 1: symbol 0 has 1 of 1 in the first sample, and the second did not see it
pub J2_one : chart_of J2 (1 ∷ []) 0 ≡ First one64
unfolding answer N sum div of_int
J2_one = refl

-- at depth 1 a sample of a single symbol has seen no context, not even the empty one
pub J5_zero : chart_of J5 (0 ∷ []) 0 ≡ Neither
unfolding answer N sum
J5_zero = refl

pub J5_empty : chart_of J5 [] 0 ≡ Neither
unfolding answer N sum
J5_empty = refl
