-- What the chart question answers, as a function of counts (document 01, "Chart question"). Assumes nothing.
use Rattle.std.specs.Prelude.{ℕ, ◌≤◌, ◌<◌, Bool, true, false, List, ltb, Float}
use Rattle.std.specs.Float.{binary64}
use Rattle.std.specs.Float.Ieee.{sub}
use Rattle.numbers.specs.Limits.{most_symbols, most_counted}
use Rattle.numbers.specs.Sum.{sum}
use Rattle.contexts.specs.Sitting.{Sample, first, second, Sitting, row_in, count_in, sum_of}
use Rattle.chart.specs.Share.{share}
use Rattle.chart.specs.declared.Point.{Point}
use Rattle.chart.specs.declared.Chart.{Chart}
use Rattle.chart.specs.declared.Chart.TheVariants.{Neither, First, Second, Both}

-- "a point that holds the two shares and their difference, first minus second, rounded once"
abbrev pub point_of : Float → Float → Point
point_of x y = record { first = x; second = y; gap = sub binary64 x y }

-- "neither sample saw the context; only the first, with its share; only the second, with its share; both, with a point":
-- by whether the first saw it, whether the second did, and the two shares
abbrev pub told : Bool → Bool → Float → Float → Chart
told false false x y = Neither
told true false x y = First x
told false true x y = Second y
told true true x y = Both (point_of x y)

-- from the symbol's count c and the total t in each sample: a sample with a total of 0 did not see the context
unfoldable pub answer : ℕ → ℕ → ℕ → ℕ → Chart
answer c₁ t₁ c₂ t₂ = told (ltb 0 t₁) (ltb 0 t₂) (share c₁ t₁) (share c₂ t₂)

-- for the symbol a, from the counts that each sample has of A symbols in one context
abbrev pub chart_from : ℕ → (Sample → ℕ → ℕ) → ℕ → Chart
chart_from A count a = answer (count first a) (sum A (count first)) (count second a) (sum A (count second))

-- "For a desk, a context and a symbol": what is answered of a sitting's context s and symbol a
abbrev pub chart_of : Sitting → List ℕ → ℕ → Chart
chart_of x s a = chart_from x.symbols (λ i. x.count i s) a

-- what is answered of the symbol a by a context's table
abbrev pub chart_in : List (List ℕ) → ℕ → Chart
chart_in t a = chart_from most_symbols (count_in t) a

-- what the code asks of a table and a symbol
pub record Chartable (t : List (List ℕ)) (a : ℕ) : Type 0 where
  pub symbol : a < most_symbols
  pub first : sum_of (row_in t first) ≤ most_counted
  pub second : sum_of (row_in t second) ≤ most_counted
