-- What a chart says of the two samples of a sitting, in document 01's words ("Chart question"). Assumes nothing.
use Rattle.std.specs.Prelude.{ℕ, ◌<◌, ◌≡◌, List, Float}
use Rattle.std.specs.Float.{binary64}
use Rattle.std.specs.Float.Ieee.{sub}
use Rattle.contexts.specs.Sitting.{Sample, first, second, Sitting, total_in}
use Rattle.chart.specs.Share.{share, Proper}
use Rattle.chart.specs.declared.Point.{Point}
use Rattle.chart.specs.declared.Chart.{Chart}
use Rattle.chart.specs.declared.Chart.TheVariants.{Neither, First, Second, Both}

-- a sample did not see the context s: N(s) is 0
abbrev pub NotSeen : Sitting → Sample → List ℕ → Type 0
NotSeen x i s = total_in x i s ≡ 0

-- a sample saw it, and r is the symbol's share there: N(s,a) / N(s), from 0 to 1, 0 exactly when N(s,a) is 0 and 1 exactly when it is N(s)
pub record ShareIn (x : Sitting) (i : Sample) (s : List ℕ) (a : ℕ) (r : Float) : Type 0 where
  pub seen : 0 < total_in x i s
  pub quotient : r ≡ share (x.count i s a) (total_in x i s)
  pub proper : Proper (x.count i s a) (total_in x i s) r

-- "a point that holds the two shares and their difference, first minus second, rounded once"
pub record PointIn (x : Sitting) (s : List ℕ) (a : ℕ) (p : Point) : Type 0 where
  pub first_share : ShareIn x first s a p.first
  pub second_share : ShareIn x second s a p.second
  pub difference : p.gap ≡ sub binary64 p.first p.second

-- "neither sample saw the context; only the first, with its share; only the second, with its share; both, with a point"
abbrev pub ChartSays : Sitting → List ℕ → ℕ → Chart → Type 0
ChartSays x s a Neither = NotSeen x first s × NotSeen x second s
ChartSays x s a (First r) = ShareIn x first s a r × NotSeen x second s
ChartSays x s a (Second r) = NotSeen x first s × ShareIn x second s a r
ChartSays x s a (Both p) = PointIn x s a p
