-- How the losses of a context are added up, symbol by symbol. Assumes nothing.
use Rattle.std.specs.Prelude.{ℕ, ◌+◌, ◌*◌, ◌^◌, ◌≤◌, ◌<◌, ◌≡◌, List}
use Rattle.numbers.specs.Limits.{most_counted, top_log}
use Rattle.numbers.specs.Sum.{sum}
use Rattle.logarithm.specs.Logarithm.{L}
use Rattle.contexts.specs.Sitting.{first, second}
use Rattle.estimate.specs.Trees.{shared, own}
use Rattle.estimate.specs.Score.{terms}
use Rattle.estimate.specs.Table.{counts_in}
use Rattle.estimate.specs.declared.ByKind.{ByKind}
use Rattle.estimate.specs.declared.Sums.{Sums}

-- the sums of two, kind by kind
pub record SumOf (x y r : ByKind) : Type 0 where
  pub shared : r.shared ≡ x.shared + y.shared
  pub first : r.first ≡ x.first + y.first
  pub second : r.second ≡ x.second + y.second

-- .. which are numbers of 64 bits
pub record SumFits (x y : ByKind) : Type 0 where
  pub shared : x.shared + y.shared < 2 ^ 64
  pub first : x.first + y.first < 2 ^ 64
  pub second : x.second + y.second < 2 ^ 64

-- what the counts of the first n symbols of a table add up to, and what their terms do
pub record SumsOf (n : ℕ) (t : List (List ℕ)) (r : Sums) : Type 0 where
  pub first_sum : r.first ≡ sum n (counts_in t (own first))
  pub second_sum : r.second ≡ sum n (counts_in t (own second))
  pub shared_terms : r.terms.shared ≡ terms n (counts_in t shared)
  pub first_terms : r.terms.first ≡ terms n (counts_in t (own first))
  pub second_terms : r.terms.second ≡ terms n (counts_in t (own second))

-- sums to which a symbol with these counts can be added
pub record Addable (s : Sums) (x y : ℕ) : Type 0 where
  pub counted : s.first + x + (s.second + y) ≤ most_counted
  pub shared_small : s.terms.shared ≤ most_counted * top_log
  pub first_small : s.terms.first ≤ most_counted * top_log
  pub second_small : s.terms.second ≤ most_counted * top_log

-- .. and the sums with it
pub record SumsAnd (s : Sums) (x y : ℕ) (r : Sums) : Type 0 where
  pub first_sum : r.first ≡ s.first + x
  pub second_sum : r.second ≡ s.second + y
  pub shared_terms : r.terms.shared ≡ s.terms.shared + (x + y) * L (x + y)
  pub first_terms : r.terms.first ≡ s.terms.first + x * L x
  pub second_terms : r.terms.second ≡ s.terms.second + y * L y
