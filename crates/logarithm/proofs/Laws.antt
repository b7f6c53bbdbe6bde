-- Laws of the logarithm: of any number that meets the rule, and of L. Assumes nothing.
use mathlib.Core.Path.{◌≡◌, refl, sym, ap, ◌∙◌, subst}
use Prim.Native.Nat.{ℕ, zero, suc, ◌+◌, ◌-◌, ◌*◌, ◌^◌, ◌≤◌, ◌<◌, zero-le}
use native.Mathlib.Nat.{le_refl, le_trans, le_of_eq, le_antisymm, lt_of_le_of_lt, lt_of_not-le, not-le_of_lt, add_assoc, mul-one, mul-mul-mul_comm, mul-le-mul, mul-le-mul_left, mul-lt-mul_of_pos_left, pow-zero, pow-suc, pow-succ', pow-le-pow_left, one-le-pow}
use native.Mathlib.Omega.{arith}
use lib.Pow.{pow-add, pow_pos, pow_mono}
use lib.Ieee.{size}
use lib.Ieee.Digits.{size-lt, size_reaches}
use Rattle.numbers.specs.Limits.{most_counted, top_log}
use Rattle.logarithm.specs.Logarithm.{IsLog, L}

-- ---- powers

mul_pow : (a b k : ℕ) → (a * b) ^ k ≡ a ^ k * b ^ k
mul_pow a b zero = simp (pow-zero, mul-one)
mul_pow a b (suc k) = simp (pow-suc, mul_pow a b k, mul-mul-mul_comm)

-- the exponents of two powers of two are in the powers' order
exponent_le : (j k : ℕ) → 2 ^ j < 2 ^ (k + 1) → j ≤ k
exponent_le j k h = let x : j < k + 1 = lt_of_not-le (λ (g : k + 1 ≤ j). not-le_of_lt h (pow_mono g)) in omega arith

-- ---- any number that meets the rule

pub log_mono : {n m j k : ℕ} → n ≤ m → IsLog n j → IsLog m k → j ≤ k
log_mono {n} {m} {j} {k} h p q = exponent_le j k (lt_of_le_of_lt (le_trans p.reached (pow-le-pow_left h 1024)) q.passed)

pub log_unique : {n j k : ℕ} → IsLog n j → IsLog n k → j ≡ k
log_unique {n} p q = le_antisymm (log_mono (le_refl n) p q) (log_mono (le_refl n) q p)

-- at any exponent e in place of 1024
double_le : (e n k : ℕ) → 2 ^ k ≤ n ^ e → 2 ^ (e + k) ≤ (2 * n) ^ e
double_le e n k h = rw (pow-add, mul_pow) (mul-le-mul_left (2 ^ e) h)

double_lt : (e n k : ℕ) → n ^ e < 2 ^ (k + 1) → (2 * n) ^ e < 2 ^ (e + k + 1)
double_lt e n k h = rw (add_assoc, pow-add 2 e (k + 1), mul_pow) (mul-lt-mul_of_pos_left h (pow_pos e))

log_double : {n k : ℕ} → IsLog n k → IsLog (2 * n) (1024 + k)
log_double {n} {k} p = record { reached = double_le 1024 n k p.reached; passed = double_lt 1024 n k p.passed }

-- ---- L meets the rule, and is the only number that does

some_digit : (x z : ℕ) → 0 < x → x < 2 ^ z → z - 1 + 1 ≡ z
some_digit x zero h l = omega arith
some_digit x (suc z) h l = omega arith

pub L_is_log : (n : ℕ) → 0 < n → IsLog n (L n)
unfolding L
L_is_log n h =
    let x : ℕ = n ^ 1024 in
    let e : size x - 1 + 1 ≡ size x = some_digit x (size x) (one-le-pow 1024 n h) (size-lt x) in
    record { reached = size_reaches x (size x - 1) (omega arith); passed = subst (λ (z : ℕ). x < 2 ^ z) (sym e) (size-lt x) }

pub L_only : (n k : ℕ) → 0 < n → IsLog n k → k ≡ L n
L_only n k h p = log_unique p (L_is_log n h)

pub L_zero : L 0 ≡ 0
unfolding L
L_zero = refl

-- ---- its laws

pub L_one : L 1 ≡ 0
unfolding L
L_one = refl

pub L_mono : (n m : ℕ) → n ≤ m → L n ≤ L m
L_mono zero m h = subst (λ (x : ℕ). x ≤ L m) (sym L_zero) zero-le
L_mono (suc n) m h = log_mono h (L_is_log (suc n) (omega arith)) (L_is_log m (omega arith))

pub L_double : (n : ℕ) → 0 < n → L (2 * n) ≡ L n + 1024
L_double n h = let e : 1024 + L n ≡ L (2 * n) = L_only (2 * n) (1024 + L n) (omega arith) (log_double (L_is_log n h)) in omega arith

pub L_pow : (j : ℕ) → L (2 ^ j) ≡ 1024 * j
L_pow zero = L_one
L_pow (suc j) =
    let ih : L (2 ^ j) ≡ 1024 * j = L_pow j in
    let e : L (2 ^ suc j) ≡ L (2 ^ j) + 1024 = ap L (pow-succ' 2 j) ∙ L_double (2 ^ j) (pow_pos j) in
    omega arith

pub L_bound : (j n : ℕ) → n ≤ 2 ^ j → L n ≤ 1024 * j
L_bound j n h = le_trans (L_mono n (2 ^ j) h) (le_of_eq (L_pow j))

pub L_top : (n : ℕ) → n ≤ most_counted → L n ≤ top_log
L_top n h = L_bound 12 n h

-- a number times its logarithm
pub term_top : (n : ℕ) → n ≤ most_counted → n * L n ≤ most_counted * top_log
term_top n h = mul-le-mul h (L_top n h)
