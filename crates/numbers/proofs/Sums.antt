-- Laws of sums over the numbers below a bound. Assumes nothing.
use Prim.Native.Nat.{ℕ, zero, suc, ◌+◌, ◌*◌, ◌≤◌, ◌<◌}
use native.Mathlib.Nat.{le_refl, le-suc, le_trans, add-le-add}
use native.Mathlib.Omega.{arith}
use native.Mathlib.Numerals.{add-one}
use mathlib.Core.Path.{◌≡◌, refl, sym, ap₂}
use mathlib.Core.Bool.{Bool, ◌&&◌, and-true, and-false}
use lib.Dec.{eqb}
use borrow.Author.Tests.{eq-eqb, ne_eqb}
use Rattle.numbers.specs.Sum.{one, sum}
use Rattle.numbers.proofs.Orders.{less, same, more, order}

pub sum_mono : (n : ℕ) {f g : ℕ → ℕ} → ((a : ℕ) → a < n → f a ≤ g a) → sum n f ≤ sum n g
unfolding sum
sum_mono zero h = le_refl 0
sum_mono (suc n) h = add-le-add (sum_mono n (λ a l. h a (le_trans l (le-suc n)))) (h n (le_refl (suc n)))

pub sum_cong : (n : ℕ) {f g : ℕ → ℕ} → ((a : ℕ) → a < n → f a ≡ g a) → sum n f ≡ sum n g
unfolding sum
sum_cong zero h = refl
sum_cong (suc n) h = ap₂ ◌+◌ (sum_cong n (λ a l. h a (le_trans l (le-suc n)))) (h n (le_refl (suc n)))

pub sum_add : (n : ℕ) (f g : ℕ → ℕ) → sum n (λ a. f a + g a) ≡ sum n f + sum n g
unfolding sum
sum_add zero f g = refl
sum_add (suc n) f g = omega (arith, sum_add n f g)

pub sum_zero : (n : ℕ) {f : ℕ → ℕ} → ((a : ℕ) → a < n → f a ≡ 0) → sum n f ≡ 0
unfolding sum
sum_zero zero h = refl
sum_zero (suc n) h = omega (arith, sum_zero n (λ a l. h a (le_trans l (le-suc n))), h n (le_refl (suc n)))

pub sum_same : (n c : ℕ) → sum n (λ a. c) ≡ n * c
unfolding sum
sum_same zero c = omega arith
sum_same (suc n) c = omega (arith, sum_same n c)

-- one number more, as a loop adds it
pub sum_next : (n : ℕ) (f : ℕ → ℕ) → sum (n + 1) f ≡ sum n f + f n
unfolding sum
sum_next n f = rw add-one

pub sum_none : (f : ℕ → ℕ) → sum 0 f ≡ 0
unfolding sum
sum_none f = refl

pub sum_longer : (m n : ℕ) (f : ℕ → ℕ) → m ≤ n → sum m f ≤ sum n f
unfolding sum
sum_longer m zero f l = let e : m ≡ 0 = omega arith in rw e (le_refl 0)
sum_longer m (suc n) f l = elim (order m (suc n)) [
  | less o ↦ omega (arith, sum_longer m n f (omega arith))
  | same e ↦ rw e (le_refl (sum n f + f n))
  | more o ↦ absurd (omega arith)
]

-- a part is at most the whole
pub sum_part : (n : ℕ) (f : ℕ → ℕ) (a : ℕ) → a < n → f a ≤ sum n f
unfolding sum
sum_part zero f a l = absurd (omega arith)
sum_part (suc n) f a l = elim (order a n) [
  | less h ↦ omega (arith, sum_part n f a h)
  | same e ↦ rw e (omega arith)
  | more h ↦ absurd (omega arith)
]

-- where nothing is added from m on, a longer sum is the same
pub sum_past : (m n : ℕ) (f : ℕ → ℕ) → m ≤ n → ((a : ℕ) → m ≤ a → f a ≡ 0) → sum n f ≡ sum m f
unfolding sum
sum_past m zero f l h = let e : m ≡ 0 = omega arith in rw e
sum_past m (suc n) f l h = elim (order m (suc n)) [
  | less o ↦ let ih : sum n f ≡ sum m f = sum_past m n f (omega arith) h in let z : f n ≡ 0 = h n (omega arith) in omega arith
  | same e ↦ rw e
  | more o ↦ absurd (omega arith)
]

-- sums that are equal though each part of one is at most the other's have equal parts
pub sum_tight : (n : ℕ) {f g : ℕ → ℕ} → ((a : ℕ) → a < n → f a ≤ g a) → sum n g ≤ sum n f → (a : ℕ) → a < n → g a ≤ f a
unfolding sum
sum_tight zero h t a l = absurd (omega arith)
sum_tight (suc n) {f} {g} h t a l =
    let low : sum n f ≤ sum n g = sum_mono n (λ b m. h b (le_trans m (le-suc n))) in
    let top : f n ≤ g n = h n (le_refl (suc n)) in
    elim (order a n) [
      | less m ↦ sum_tight n (λ b m. h b (le_trans m (le-suc n))) (omega arith) a m
      | same e ↦ rw e (omega arith)
      | more m ↦ absurd (omega arith)
    ]

-- one more at one number is one more in the sum
one_elsewhere : (n x : ℕ) (f : ℕ → ℕ) (c : Bool) → n ≤ x → sum n (λ a. f a + one (c && eqb a x)) ≡ sum n f
unfolding sum
one_elsewhere zero x f c l = refl
one_elsewhere (suc n) x f c l = rw (ne_eqb n x (λ q. omega arith), and-false c) (let h = one_elsewhere n x f c (omega arith) in omega arith)

pub sum_pick : (n x : ℕ) (f : ℕ → ℕ) (c : Bool) → x < n → sum n (λ a. f a + one (c && eqb a x)) ≡ sum n f + one c
unfolding sum
sum_pick zero x f c l = absurd (omega arith)
sum_pick (suc n) x f c l = elim (order x n) [
  | less o ↦ rw (ne_eqb n x (λ q. omega arith), and-false c) (let h = sum_pick n x f c o in omega arith)
  | same q ↦ rw (eq-eqb n x (sym q), and-true c) (let h = one_elsewhere n x f c (omega arith) in omega arith)
  | more o ↦ absurd (omega arith)
]
