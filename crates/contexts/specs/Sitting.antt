-- A sitting: what a report, a chart question and a feed speak of. Assumes nothing.
use Rattle.std.specs.Prelude.{ℕ, zero, suc, ◌+◌, Bool, true, false, List, [], ◌∷◌, length, get_or, ltb}
use Rattle.numbers.specs.Limits.{most_symbols}
use Rattle.numbers.specs.Sum.{one, sum}
use Rattle.contexts.specs.Counts.{N}
use Rattle.contexts.specs.Strings.{total}

-- "each of a sitting's two samples"
pub data Sample : Type 0 where
  first second : Sample

abbrev pub same_sample : Sample → Sample → Bool
same_sample first first = true
same_sample first second = false
same_sample second first = false
same_sample second second = true

-- sample 0 is the first, sample 1 the second
abbrev pub sample_of : ℕ → Sample
sample_of zero = first
sample_of (suc i) = second

pub record Sitting : Type 0 where
  -- A and D
  pub symbols : ℕ
  pub depth : ℕ
  -- the weight on the penalty, "a whole number of quarters"
  pub weight : ℕ
  -- n and m, the samples' lengths
  pub size : Sample → ℕ
  -- N(s,a) in each sample
  pub count : Sample → List ℕ → ℕ → ℕ

-- the sitting of two pasts, each most recent symbol first, where the places past the first `from` are counted
abbrev pub sitting_of : ℕ → ℕ → ℕ → ℕ → (Sample → List ℕ) → Sitting
sitting_of A D weight from past = record { symbols = A; depth = D; weight = weight; size = λ i. length (past i); count = λ i. N from (past i) }

-- N(s) in a sample
abbrev pub total_in : Sitting → Sample → List ℕ → ℕ
total_in x i s = sum x.symbols (x.count i s)

-- "A sitting holds as many contexts as there are strings s with N(s) > 0 in either sample."
abbrev pub is_held : Sitting → List ℕ → Bool
is_held x s = ltb 0 (total_in x first s + total_in x second s)

abbrev pub contexts_held : Sitting → ℕ
contexts_held x = total x.symbols x.depth (λ s. one (is_held x s))

-- "a table of two samples by eight symbols"
abbrev pub eight : (ℕ → ℕ) → List ℕ
eight c = c 0 ∷ c 1 ∷ c 2 ∷ c 3 ∷ c 4 ∷ c 5 ∷ c 6 ∷ c 7 ∷ []

abbrev pub table : Sitting → List ℕ → List (List ℕ)
table x s = eight (x.count first s) ∷ eight (x.count second s) ∷ []

-- a sample's eight counts of such a table, one of them, and what all of a row add up to
abbrev pub row_in : List (List ℕ) → Sample → List ℕ
row_in t first = get_or t 0 []
row_in t second = get_or t 1 []

abbrev pub count_in : List (List ℕ) → Sample → ℕ → ℕ
count_in t i a = get_or (row_in t i) a 0

abbrev pub sum_of : List ℕ → ℕ
sum_of row = sum most_symbols (λ a. get_or row a 0)

-- what a sitting at a desk has so far: the samples' lengths, the last up to D symbols of each, most recent first, and the counts
pub record Progress : Type 0 where
  pub size : Sample → ℕ
  pub recent : Sample → List ℕ
  pub count : Sample → List ℕ → ℕ → ℕ

abbrev pub sat : ℕ → ℕ → ℕ → Progress → Sitting
sat A D weight p = record { symbols = A; depth = D; weight = weight; size = p.size; count = p.count }
