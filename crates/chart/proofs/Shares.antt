-- What a share is: exact casts, a value from 0 to 1, and the two ends reached only by the counts 0 and the total. Assumes nothing.
use mathlib.Core.Path.{◌≡◌, refl, ◌∙◌}
use mathlib.Core.Bool.{false}
use mathlib.Core.Logic.{inl, inr}
use mathlib.Core.List.{List}
use Prim.Native.Nat.{ℕ, ◌-◌, ◌^◌, ◌≤◌, ◌<◌}
use native.Mathlib.Nat.{eq-zero-or-pos, eq-or-lt_of_le, le_trans}
use native.Mathlib.Omega.{arith}
use lib.Dec.{T, lit≤, lit<}
use lib.IntN.{pos}
use lib.Ieee.{binary64, round, of_int, le}
use lib.Ieee.Exact.{HasValue}
use lib.Ieee.Order.{round_mono}
use lib.Ieee.Scale.{round_same}
use Rattle.numbers.specs.Limits.{most_counted}
use Rattle.numbers.proofs.Sums.{sum_part}
use Rattle.contexts.specs.Sitting.{Sample, Sitting, total_in}
use Rattle.chart.specs.Share.{share, zero64, one64, Charted, Proper}
use Rattle.chart.proofs.Quotients.{cast_exact, quotient_is}

-- ---- 0, 1 and the values next to them, worked out

pub zero_is : round binary64 false 0 1 ≡ zero64
unfolding round
zero_is = refl

one_is : round binary64 false 1 1 ≡ one64
unfolding round
one_is = refl

-- the least count of the largest total rounds to no zero, and one less than the largest total to no one
above_zero : T (le (round binary64 false 1 most_counted) zero64) → ⊥
unfolding round le
above_zero t = t

below_one : T (le one64 (round binary64 false (most_counted - 1) most_counted)) → ⊥
unfolding round le
below_one t = t

-- ---- the casts

within : (n : ℕ) → n ≤ most_counted → n ≤ 2 ^ 53
within n h = le_trans h (lit≤ tt)

-- THEOREM. A count is cast exactly: the float's value is the count
pub count_exact : (n : ℕ) → n ≤ most_counted → HasValue (of_int binary64 (pos n)) false n 1
count_exact n h = cast_exact binary64 n (within n h)

-- ---- a count c of a total t
module _ {c t : ℕ} (h : Charted c t) where
  -- THEOREM. A share is the fraction, rounded once
  pub share_is : share c t ≡ round binary64 false c t
  share_is = quotient_is binary64 c t (within c (le_trans h.part h.most)) (within t h.most) h.seen

  low : T (le zero64 (round binary64 false c t))
  low = rw (← zero_is) (round_mono binary64 0 1 c t (lit< tt) h.seen (omega arith))

  high : T (le (round binary64 false c t) one64)
  high = rw (← one_is) (round_mono binary64 c t 1 1 h.seen (lit< tt) (omega arith))

  zero_at : c ≡ 0 → round binary64 false c t ≡ zero64
  zero_at e = round_same binary64 false c t 0 1 h.seen (lit< tt) (omega arith) ∙ zero_is

  one_at : c ≡ t → round binary64 false c t ≡ one64
  one_at e = round_same binary64 false c t 1 1 h.seen (lit< tt) (omega arith) ∙ one_is

  zero_only : round binary64 false c t ≡ zero64 → c ≡ 0
  zero_only e = elim (eq-zero-or-pos c) [
    | inl z ↦ z
    | inr p ↦ absurd (above_zero (rw e at (round_mono binary64 1 most_counted c t (lit< tt) h.seen (omega arith))))
  ]

  one_only : round binary64 false c t ≡ one64 → c ≡ t
  one_only e = elim (eq-or-lt_of_le h.part) [
    | inl z ↦ z
    | inr p ↦ absurd (below_one (rw e at (round_mono binary64 c t (most_counted - 1) most_counted h.seen (lit< tt) (omega arith))))
  ]

  -- THEOREM. A share lies from 0 to 1; it is 0 exactly when the count is 0, and 1 exactly when the count is the total
  pub share_proper : Proper c t (share c t)
  share_proper = rw share_is (record { low = low; high = high; at_zero = (zero_only, zero_at); at_one = (one_only, one_at) })

-- so it is of every symbol below A, in each sample that saw a sitting's context
pub sitting_charted : (x : Sitting) (i : Sample) (s : List ℕ) (a : ℕ) → a < x.symbols → 0 < total_in x i s → total_in x i s ≤ most_counted
    → Charted (x.count i s a) (total_in x i s)
sitting_charted x i s a l seen most = record { part = sum_part x.symbols (x.count i s) a l; seen = seen; most = most }
