-- The four cases of the chart's answer, by the two samples' totals. Assumes nothing.
use Prim.Native.Nat.{ℕ, ◌+◌, ◌<◌}
use mathlib.Core.Path.{◌≡◌}
use mathlib.Core.Bool.{false}
use mathlib.Core.List.{List}
use native.Mathlib.Omega.{arith}
use borrow.Author.Tests.{lt-ltb, le-ltb, ltb-false}
use Rattle.contexts.specs.Sitting.{first, second, Sitting, total_in, is_held}
use Rattle.chart.specs.Share.{share}
use Rattle.chart.specs.Answer.{point_of, answer, chart_of}
use Rattle.chart.specs.declared.Chart.TheVariants.{Neither, First, Second, Both}

-- ---- a count c of a total t in each sample
module _ (c₁ t₁ c₂ t₂ : ℕ) where
  pub answer_neither : t₁ ≡ 0 → t₂ ≡ 0 → answer c₁ t₁ c₂ t₂ ≡ Neither
  unfolding answer
  answer_neither p q = rw (le-ltb 0 t₁ (omega arith), le-ltb 0 t₂ (omega arith))

  pub answer_first : 0 < t₁ → t₂ ≡ 0 → answer c₁ t₁ c₂ t₂ ≡ First (share c₁ t₁)
  unfolding answer
  answer_first p q = rw (lt-ltb 0 t₁ p, le-ltb 0 t₂ (omega arith))

  pub answer_second : t₁ ≡ 0 → 0 < t₂ → answer c₁ t₁ c₂ t₂ ≡ Second (share c₂ t₂)
  unfolding answer
  answer_second p q = rw (le-ltb 0 t₁ (omega arith), lt-ltb 0 t₂ q)

  pub answer_both : 0 < t₁ → 0 < t₂ → answer c₁ t₁ c₂ t₂ ≡ Both (point_of (share c₁ t₁) (share c₂ t₂))
  unfolding answer
  answer_both p q = rw (lt-ltb 0 t₁ p, lt-ltb 0 t₂ q)

-- of a context that the sitting does not hold
pub chart_unheld : (x : Sitting) (s : List ℕ) (a : ℕ) → is_held x s ≡ false → chart_of x s a ≡ Neither
chart_unheld x s a e =
    let none = ltb-false 0 (total_in x first s + total_in x second s) e in
    answer_neither (x.count first s a) (total_in x first s) (x.count second s a) (total_in x second s) (omega arith) (omega arith)
