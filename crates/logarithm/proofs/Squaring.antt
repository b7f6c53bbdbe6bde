-- The squarings of `log_of` as a test that the checker computes for every n from 1 to the largest that is asked for: each square fits, and after the
-- tenth k meets the rule. The loop's invariant is that what is left of the test passes. Assumes nothing.
use mathlib.Core.Path.{◌≡◌, ◌∙◌, sym, subst}
use mathlib.Core.Bool.{Bool, true, ◌&&◌}
use Prim.Native.Nat.{ℕ, zero, suc, ◌+◌, ◌-◌, ◌*◌, ◌/◌, ◌%◌, ◌^◌, ◌≤◌, ◌<◌}
use native.Mathlib.Nat.{add-zero, add-suc, suc-add, le_of_suc-le-suc, not-suc-le-zero, lt_of_le_of_lt, mul-le-mul}
use native.Mathlib.Omega.{arith}
use lib.Dec.{T, leb, ltb, leb→le, ltb→lt, lit<}
use lib.Count.{count_leading_zeros}
use Rattle.numbers.specs.Limits.{most_counted}
use Rattle.numbers.proofs.Tests.{left, right}
use Rattle.logarithm.specs.Logarithm.{L}
use Rattle.logarithm.proofs.Laws.{L_only}

-- ---- the rule

-- 2 ^ k ≤ p < 2 ^ (k + 1). p is an argument, so that n ^ 1024 is worked out once.
abbrev between : ℕ → ℕ → Bool
between p k = leb (2 ^ k) p && ltb p (2 ^ (k + 1))

right_says : (n k : ℕ) → 1 ≤ n → T (between (n ^ 1024) k) → k ≡ L n
right_says n k h t =
    let p = n ^ 1024 in
    L_only n k h
    (record {
      reached = leb→le (2 ^ k) p (left (leb (2 ^ k) p) (ltb p (2 ^ (k + 1))) t);
      passed = ltb→lt p (2 ^ (k + 1)) (right (leb (2 ^ k) p) (ltb p (2 ^ (k + 1))) t);
    })

-- ---- the squarings that are left

-- 1 where the square of a number of 32 binary digits has 64, 0 where it has 63
abbrev digit : ℕ → ℕ
digit lead = lead * lead / 2 ^ 63

-- the square's first 32 digits
abbrev square_lead : ℕ → ℕ
square_lead lead = lead * lead / 2 ^ 31 / 2 ^ digit lead

-- the code's MARK
abbrev pub mark : ℕ
mark = 32768

-- d squarings are left: k reaches its mark with the last, no square is above what the code has room for, and in the end the rule is met
abbrev passes : ℕ → ℕ → ℕ → ℕ → Bool
passes zero n lead k = leb mark k && between (n ^ 1024) (k - mark)
passes (suc d) n lead k = (ltb lead (2 ^ 32) && ltb k mark) && passes d n (square_lead lead) (2 * k + digit lead)

-- .. however many are left
pub record Passing (n lead k : ℕ) : Type 0 where
  pub squarings : ℕ
  pub test : T (passes squarings n lead k)

-- what the code asks of one squaring
pub record Turn (n lead k : ℕ) : Type 0 where
  pub square_small : lead * lead < 2 ^ 64
  pub rest : Passing n (square_lead lead) (2 * k + digit lead)

square_lt : (lead : ℕ) → lead < 2 ^ 32 → lead * lead < 2 ^ 64
square_lt lead h = let l : lead ≤ 4294967295 = omega arith in lt_of_le_of_lt (mul-le-mul l l) (lit< tt)

pub turn : (n lead k : ℕ) → Passing n lead k → k < mark → Turn n lead k
turn n lead k p h = go p.squarings p.test
  where
    go : (d : ℕ) → T (passes d n lead k) → Turn n lead k
    go zero t = absurd (omega (arith, h, leb→le mark k (left (leb mark k) (between (n ^ 1024) (k - mark)) t)))
    go (suc d) t =
        let a = ltb lead (2 ^ 32) in
        let b = ltb k mark in
        let after = passes d n (square_lead lead) (2 * k + digit lead) in
        record {
          square_small = square_lt lead (ltb→lt lead (2 ^ 32) (left a b (left (a && b) after t)));
          rest = record { squarings = d; test = right (a && b) after t };
        }

pub done : (n lead k : ℕ) → 1 ≤ n → Passing n lead k → mark ≤ k → k - mark ≡ L n
done n lead k l p h = go p.squarings p.test
  where
    go : (d : ℕ) → T (passes d n lead k) → k - mark ≡ L n
    go zero t = right_says n (k - mark) l (right (leb mark k) (between (n ^ 1024) (k - mark)) t)
    go (suc d) t =
        let a = ltb lead (2 ^ 32) in
        let b = ltb k mark in
        absurd (omega (arith, h, ltb→lt k mark (right a b (left (a && b) (passes d n (square_lead lead) (2 * k + digit lead)) t))))

-- ---- all ten, for every n

-- from the start: n is moved up by its zeros
abbrev ten_pass : ℕ → ℕ → Bool
ten_pass n zeros = ltb zeros 32 && passes 10 n (n * 2 ^ zeros % 2 ^ 64) (63 - zeros)

-- .. which n alone says
abbrev well : ℕ → Bool
well n = ten_pass n (count_leading_zeros 32 n)

-- the test f at each of the d numbers from i on
abbrev each : (ℕ → Bool) → ℕ → ℕ → Bool
each f zero i = true
each f (suc d) i = f i && each f d (suc i)

each_at : (f : ℕ → Bool) (d i k : ℕ) → T (each f d i) → k < d → T (f (i + k))
each_at f zero i k t h = absurd (not-suc-le-zero h)
each_at f (suc d) i zero t h = subst (λ (x : ℕ). T (f x)) (sym (add-zero i)) (left (f i) (each f d (suc i)) t)
each_at f (suc d) i (suc k) t h =
    subst (λ (x : ℕ). T (f x)) (suc-add i k ∙ sym (add-suc i k)) (each_at f d (suc i) k (right (f i) (each f d (suc i)) t) (le_of_suc-le-suc h))

-- the one computed test
all_well : T (each well most_counted 1)
unfolding count_leading_zeros
all_well = tt

from_one : (n : ℕ) → 1 ≤ n → 1 + (n - 1) ≡ n
from_one n h = omega arith

-- what the code asks at the start
pub record Start (n zeros : ℕ) : Type 0 where
  pub zeros_small : zeros < 32
  pub run : Passing n (n * 2 ^ zeros % 2 ^ 64) (63 - zeros)

pub starts : (n : ℕ) → 1 ≤ n → n ≤ most_counted → Start n (count_leading_zeros 32 n)
starts n h l =
    let zeros = count_leading_zeros 32 n in
    let a = ltb zeros 32 in
    let b = passes 10 n (n * 2 ^ zeros % 2 ^ 64) (63 - zeros) in
    let t : T (a && b) = subst (λ (x : ℕ). T (well x)) (from_one n h) (each_at well most_counted 1 (n - 1) all_well (omega arith)) in
    record { zeros_small = ltb→lt zeros 32 (left a b t); run = record { squarings = 10; test = right a b t } }
