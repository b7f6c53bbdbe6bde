-- The sum of c·L(c) over counts c is at most t·L(t), where t is their sum: no fit of document 01 is above 0. Assumes nothing.
use Prim.Native.Nat.{ℕ, zero, suc, ◌*◌, ◌≤◌, ◌<◌}
use native.Mathlib.Nat.{le_refl, le-suc, le_trans, mul-le-mul_left}
use native.Mathlib.Omega.{arith}
use Rattle.numbers.specs.Sum.{sum}
use Rattle.numbers.proofs.Sums.{sum_part}
use Rattle.logarithm.specs.Logarithm.{L}
use Rattle.logarithm.proofs.Laws.{L_mono}

-- each count's logarithm is at most the logarithm of any number that no count exceeds
terms_most : (n t : ℕ) (c : ℕ → ℕ) → ((a : ℕ) → a < n → c a ≤ t) → sum n (λ a. c a * L (c a)) ≤ sum n c * L t
unfolding sum
terms_most zero t c h = omega arith
terms_most (suc n) t c h =
    omega (arith, terms_most n t c (λ a l. h a (le_trans l (le-suc n))), mul-le-mul_left (c n) (L_mono (c n) t (h n (le_refl (suc n)))))

pub terms_le : (n : ℕ) (c : ℕ → ℕ) → sum n (λ a. c a * L (c a)) ≤ sum n c * L (sum n c)
terms_le n c = terms_most n (sum n c) c (sum_part n c)
