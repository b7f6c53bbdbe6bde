-- The logarithm of a number by that of its odd part: each doubling adds 1,024. Assumes nothing.
use mathlib.Core.Path.{◌≡◌, refl, sym, ap, ◌∙◌}
use mathlib.Core.List.{List}
use Prim.Native.Nat.{ℕ, zero, suc, ◌+◌, ◌*◌, ◌/◌, ◌%◌, ◌^◌, ◌≤◌, ◌<◌}
use native.Mathlib.Nat.{zero-mul, mul-one, mul_left_comm, mul-le-mul, div-one, div-div-eq-div-mul, pow-succ'}
use native.Mathlib.Omega.{arith}
use lib.Count.{count_trailing_zeros, under}
use lib.ListN.{length, get_or}
use lib.Pow.{pow_pos}
use Rattle.logarithm.specs.Logarithm.{L}
use Rattle.logarithm.specs.Table.{AreLogs}
use Rattle.logarithm.proofs.Laws.{L_double}

-- ---- the twos of a number

whole : (n : ℕ) → n / 1 * 1 ≡ n
whole n = mul-one (n / 1) ∙ div-one n

twice_half : (n : ℕ) → n % 2 ≡ 0 → 2 * (n / 2) ≡ n
twice_half n e = omega arith

-- a number is its odd part times its twos
parted : (d n : ℕ) → n / 2 ^ count_trailing_zeros d n * 2 ^ count_trailing_zeros d n ≡ n
unfolding count_trailing_zeros
parted zero n = whole n
parted (suc d) n = go (n % 2) refl (parted d (n / 2))
  where
    t : ℕ
    t = count_trailing_zeros d (n / 2)

    go : (r : ℕ) → n % 2 ≡ r → n / 2 / 2 ^ t * 2 ^ t ≡ n / 2 → n / 2 ^ under r t * 2 ^ under r t ≡ n
    go zero e half =
        ap (λ (x : ℕ). n / x * x) (pow-succ' 2 t)
        ∙ ap (λ (x : ℕ). x * (2 * 2 ^ t)) (sym (div-div-eq-div-mul n 2 (2 ^ t)))
        ∙ mul_left_comm (n / 2 / 2 ^ t) 2 (2 ^ t)
        ∙ ap (λ (x : ℕ). 2 * x) half
        ∙ twice_half n e
    go (suc r) e half = whole n

-- ---- the logarithm

L_doubled : (q t : ℕ) → 1 ≤ q → L (q * 2 ^ t) ≡ L q + 1024 * t
L_doubled q zero h = rw (mul-one q) (omega arith)
L_doubled q (suc t) h =
    let more : L (2 * (q * 2 ^ t)) ≡ L (q * 2 ^ t) + 1024 = L_double (q * 2 ^ t) (mul-le-mul h (pow_pos t)) in
    let e : q * 2 ^ suc t ≡ 2 * (q * 2 ^ t) = ap (λ (x : ℕ). q * x) (pow-succ' 2 t) ∙ mul_left_comm q 2 (2 ^ t) in
    rw e (omega (arith, more, L_doubled q t h))

some_odd : (q t n : ℕ) → q * 2 ^ t ≡ n → ¬ (n ≡ 0) → 1 ≤ q
some_odd zero t n e h = absurd (h (sym e ∙ zero-mul (2 ^ t)))
some_odd (suc q) t n e h = omega arith

-- L of a number by that of its odd part
by_odd : (n : ℕ) → ¬ (n ≡ 0) → let t = count_trailing_zeros 32 n in L n ≡ L (n / 2 ^ t) + 1024 * t
by_odd n h =
    let t = count_trailing_zeros 32 n in
    let e : n / 2 ^ t * 2 ^ t ≡ n = parted 32 n in
    sym (ap L e) ∙ L_doubled (n / 2 ^ t) t (some_odd (n / 2 ^ t) t n e h)

-- .. so it can be read where that is lent
pub by_lent : (logs : List ℕ) (n : ℕ) → AreLogs logs → ¬ (n ≡ 0) → n / 2 ^ count_trailing_zeros 32 n < length logs
    → get_or logs (n / 2 ^ count_trailing_zeros 32 n) 0 + 1024 * count_trailing_zeros 32 n ≡ L n
by_lent logs n lent h r = let t = count_trailing_zeros 32 n in ap (λ (x : ℕ). x + 1024 * t) (lent.right (n / 2 ^ t) r) ∙ sym (by_odd n h)
