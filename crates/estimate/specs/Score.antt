-- Fit, cost and score, in whole numbers of either sign, in the words of document 01 ("Counts and score") and of document 02 (E5, the weight).
-- Assumes nothing.
use Rattle.std.specs.Prelude.{ℕ, zero, suc, ◌+◌, ◌-◌, ◌*◌, cond, List, [], ℤ, pos, ◌+ℤ◌, ◌-ℤ◌, ◌*ℤ◌, ◌≤ℤ◌}
use Rattle.numbers.specs.Sum.{sum}
use Rattle.logarithm.specs.Logarithm.{L}
use Rattle.contexts.specs.Strings.{under}
use Rattle.contexts.specs.Sitting.{Sample, first, second, Sitting}
use Rattle.estimate.specs.Trees.{Contexts, Kind, shared, own, Triple, Admissible}

-- of two numbers, one for each sample: "a shared context's fit uses the added counts", an own context's those of its sample
abbrev pub of_kind : Kind → (Sample → ℕ) → ℕ
of_kind shared g = g first + g second
of_kind (own i) g = g i

-- the counts of a context of a kind, and the length that its cost goes by: n, m or n + m
abbrev pub counts : Sitting → Kind → List ℕ → ℕ → ℕ
counts x k s a = of_kind k (λ i. x.count i s a)

abbrev pub size_of : Sitting → Kind → ℕ
size_of x k = of_kind k x.size

-- "sum of c·L(c)", and "t·L(t)"
abbrev pub terms : ℕ → (ℕ → ℕ) → ℕ
terms A c = sum A (λ a. c a * L (c a))

abbrev pub whole : ℕ → (ℕ → ℕ) → ℕ
whole A c = sum A c * L (sum A c)

-- "its fit is taken eightfold"
abbrev pub fit_times : ℕ
fit_times = 8

-- so many times "sum of c·L(c), less t·L(t)"
abbrev pub fit : ℕ → (ℕ → ℕ) → ℤ
fit A c = pos fit_times *ℤ (pos (terms A c) -ℤ pos (whole A c))

-- "(A-1)·L(n) .., (A-1)·L(m) .., (A-1)·L(n+m) when shared": what a context costs for each quarter of the weight
abbrev pub quarter : ℕ → ℕ → ℕ
quarter A n = (A - 1) * L n

-- "The penalty of a context becomes weight·(A-1)·L"
abbrev pub cost : ℕ → ℕ → ℕ → ℕ
cost weight A n = weight * quarter A n

-- what a context of a kind adds to a score: its fit less its cost
abbrev pub Worths : Type 0
Worths = Kind → List ℕ → ℤ

abbrev pub worths : Sitting → Worths
worths x k s = fit x.symbols (counts x k s) -ℤ pos (cost x.weight x.symbols (size_of x k))

-- sums over the symbols below a bound, and over all strings of at most d symbols, each below A
unfoldable pub sumℤ : ℕ → (ℕ → ℤ) → ℤ
sumℤ zero f = pos 0
sumℤ (suc n) f = sumℤ n f +ℤ f n

unfoldable pub totalℤ : ℕ → ℕ → (List ℕ → ℤ) → ℤ
totalℤ A zero g = g []
totalℤ A (suc d) g = g [] +ℤ sumℤ A (λ a. totalℤ A d (under a g))

-- the sum over a set's members
abbrev pub set_score : ℕ → ℕ → (List ℕ → ℤ) → Contexts → ℤ
set_score A D g t = totalℤ A D (λ s. cond (t s) (g s) (pos 0))

-- "The score of a triple is the sum of its contexts' fits less their costs; a context in both own sets counts once in each."
abbrev pub score : ℕ → ℕ → Worths → Triple → ℤ
score A D w t = set_score A D (w shared) (t shared) +ℤ (set_score A D (w (own first)) (t (own first)) +ℤ set_score A D (w (own second)) (t (own second)))

-- an admissible triple of which no admissible triple within the depth scores more
pub record Best (A D : ℕ) (w : Worths) (t : Triple) : Type 0 where
  pub admissible : Admissible A D t
  pub most : (u : Triple) → Admissible A D u → score A D w u ≤ℤ score A D w t
