-- Tables of two samples by eight symbols. Assumes nothing.
use Prim.Native.Nat.{ℕ, zero, suc, ◌<◌}
use native.Mathlib.Omega.{arith}
use mathlib.Core.Path.{◌≡◌, refl, sym}
use mathlib.Core.List.{List}
use lib.ListN.{length, get_or}
use lib.Seq.{ext_get_or}
use Rattle.numbers.specs.Limits.{most_symbols}
use Rattle.numbers.specs.Sum.{sum}
use Rattle.numbers.proofs.Sums.{sum_cong}
use Rattle.contexts.specs.Sitting.{Sample, first, second, Sitting, eight, table, count_in, sum_of}

pub eight_at : (c : ℕ → ℕ) (a : ℕ) → a < most_symbols → get_or (eight c) a 0 ≡ c a
eight_at c zero l = refl
eight_at c (suc zero) l = refl
eight_at c (suc (suc zero)) l = refl
eight_at c (suc (suc (suc zero))) l = refl
eight_at c (suc (suc (suc (suc zero)))) l = refl
eight_at c (suc (suc (suc (suc (suc zero))))) l = refl
eight_at c (suc (suc (suc (suc (suc (suc zero)))))) l = refl
eight_at c (suc (suc (suc (suc (suc (suc (suc zero))))))) l = refl
eight_at c (suc (suc (suc (suc (suc (suc (suc (suc a)))))))) l = absurd (omega arith)

-- a symbol that is counted 0 times, or for which there is no place
pub eight_zero : (c : ℕ → ℕ) (a : ℕ) → c a ≡ 0 → get_or (eight c) a 0 ≡ 0
eight_zero c zero e = e
eight_zero c (suc zero) e = e
eight_zero c (suc (suc zero)) e = e
eight_zero c (suc (suc (suc zero))) e = e
eight_zero c (suc (suc (suc (suc zero)))) e = e
eight_zero c (suc (suc (suc (suc (suc zero))))) e = e
eight_zero c (suc (suc (suc (suc (suc (suc zero)))))) e = e
eight_zero c (suc (suc (suc (suc (suc (suc (suc zero))))))) e = e
eight_zero c (suc (suc (suc (suc (suc (suc (suc (suc a)))))))) e = refl

-- a list of eight numbers, one by one
pub eight_same : (l : List ℕ) → length l ≡ most_symbols → l ≡ eight (λ a. get_or l a 0)
eight_same l e = ext_get_or 0 l (eight (λ a. get_or l a 0)) e (λ a h. sym (eight_at (λ b. get_or l b 0) a (omega arith)))

pub sum_eight : (c : ℕ → ℕ) → sum_of (eight c) ≡ sum most_symbols c
sum_eight c = sum_cong most_symbols (eight_at c)

-- a sitting's table has the sitting's counts
pub table_count : (x : Sitting) (s : List ℕ) (i : Sample) (a : ℕ) → a < most_symbols → count_in (table x s) i a ≡ x.count i s a
table_count x s first a l = eight_at (x.count first s) a l
table_count x s second a l = eight_at (x.count second s) a l
