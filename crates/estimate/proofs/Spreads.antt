-- What a spread depends on. Assumes nothing.
use Prim.Native.Nat.{ℕ, ◌*◌, ◌≤◌, ◌<◌}
use native.Mathlib.Omega.{arith}
use mathlib.Core.Path.{◌≡◌, ap}
use Rattle.numbers.specs.Sum.{sum}
use Rattle.numbers.proofs.Sums.{sum_cong, sum_past}
use Rattle.logarithm.specs.Logarithm.{L}
use Rattle.estimate.specs.Score.{terms}
use Rattle.estimate.specs.Recursion.{spread}

-- a spread depends on the counts of its symbols alone, and symbols with no count add nothing
pub spread_cong : (A : ℕ) {c e : ℕ → ℕ} → ((a : ℕ) → a < A → c a ≡ e a) → spread A c ≡ spread A e
unfolding spread
spread_cong A {c} {e} h =
    let s : sum A c ≡ sum A e = sum_cong A h in
    let w : terms A c ≡ terms A e = sum_cong A (λ a l. ap (λ (n : ℕ). n * L n) (h a l)) in
    rw (s, w)

pub spread_past : (A B : ℕ) (c : ℕ → ℕ) → A ≤ B → ((a : ℕ) → A ≤ a → c a ≡ 0) → spread B c ≡ spread A c
unfolding spread
spread_past A B c l h =
    let s : sum B c ≡ sum A c = sum_past A B c l h in
    let w : terms B c ≡ terms A c = sum_past A B (λ a. c a * L (c a)) l (λ a m. rw (h a m) (omega arith)) in
    rw (s, w)
