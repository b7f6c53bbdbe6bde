-- Laws of tests of many: of the numbers below a bound, and of a list's elements. Assumes nothing.
use Prim.Native.Nat.{ℕ, zero, suc, ◌+◌, ◌<◌, suc-le-suc}
use native.Mathlib.Nat.{le_refl, le-suc, le_trans, zero-lt-suc, le_of_suc-le-suc, not-suc-le-zero}
use native.Mathlib.Numerals.{add-one}
use native.Mathlib.Omega.{arith}
use mathlib.Core.Path.{◌≡◌, refl, ap, ap₂}
use mathlib.Core.Bool.{Bool, true, false, ◌&&◌, and-false}
use mathlib.Core.List.{List, [], ◌∷◌}
use lib.Dec.{T}
use lib.ListN.{length, take, drop, get_or}
use Rattle.numbers.specs.Every.{every, all}
use Rattle.numbers.proofs.Tests.{both, left, right}
use Rattle.numbers.proofs.Orders.{less, same, more, order}
use Rattle.numbers.proofs.Lists.{cons_at, none_at}

-- ---- the numbers below a bound

pub every_at : (n : ℕ) (f : ℕ → Bool) → T (every n f) → (a : ℕ) → a < n → T (f a)
unfolding every
every_at zero f t a l = absurd (not-suc-le-zero l)
every_at (suc n) f t a l = elim (order a n) [
  | less o ↦ every_at n f (left (every n f) (f n) t) a o
  | same q ↦ rw q (right (every n f) (f n) t)
  | more o ↦ absurd (omega arith)
]

pub every_of : (n : ℕ) (f : ℕ → Bool) → ((a : ℕ) → a < n → T (f a)) → T (every n f)
unfolding every
every_of zero f h = tt
every_of (suc n) f h = both (every n f) (f n) (every_of n f (λ a l. h a (le_trans l (le-suc n)))) (h n (le_refl (suc n)))

pub every_cong : (n : ℕ) {f g : ℕ → Bool} → ((a : ℕ) → a < n → f a ≡ g a) → every n f ≡ every n g
unfolding every
every_cong zero h = refl
every_cong (suc n) h = ap₂ ◌&&◌ (every_cong n (λ a l. h a (le_trans l (le-suc n)))) (h n (le_refl (suc n)))

-- one that fails
pub every_fails : (n : ℕ) (f : ℕ → Bool) (a : ℕ) → a < n → f a ≡ false → every n f ≡ false
unfolding every
every_fails zero f a l e = absurd (not-suc-le-zero l)
every_fails (suc n) f a l e = elim (order a n) [
  | less o ↦ rw (every_fails n f a o e)
  | same q ↦ rw (← q, e) (and-false (every a f))
  | more o ↦ absurd (omega arith)
]

-- one number more, as a loop tests it
pub every_next : (n : ℕ) (f : ℕ → Bool) → every (n + 1) f ≡ every n f && f n
unfolding every
every_next n f = rw add-one

pub every_none : (f : ℕ → Bool) → every 0 f ≡ true
unfolding every
every_none f = refl

-- ---- the elements of a list

pub all_at : {X : Type 0} (f : X → Bool) (l : List X) (i : ℕ) (d : X) → T (all f l) → i < length l → T (f (get_or l i d))
unfolding all
all_at f [] i d t h = absurd (not-suc-le-zero h)
all_at f (x ∷ xs) zero d t h = left (f x) (all f xs) t
all_at f (x ∷ xs) (suc i) d t h = all_at f xs i d (right (f x) (all f xs) t) (le_of_suc-le-suc h)

pub all_of : {X : Type 0} (f : X → Bool) (l : List X) (d : X) → ((i : ℕ) → i < length l → T (f (get_or l i d))) → T (all f l)
unfolding all
all_of f [] d h = tt
all_of f (x ∷ xs) d h = both (f x) (all f xs) (h 0 (zero-lt-suc (length xs))) (all_of f xs d (λ i l. h (suc i) (suc-le-suc l)))

pub all_take : {X : Type 0} (f : X → Bool) (n : ℕ) (l : List X) → T (all f l) → T (all f (take n l))
unfolding all
all_take f zero l t = tt
all_take f (suc n) [] t = tt
all_take f (suc n) (x ∷ l) t = both (f x) (all f (take n l)) (left (f x) (all f l) t) (all_take f n l (right (f x) (all f l) t))

-- the rest decides, as a loop goes through the list
pub all_step : {X : Type 0} (f : X → Bool) (l : List X) (i : ℕ) (d : X) → i < length l → all f (drop i l) ≡ f (get_or l i d) && all f (drop (i + 1) l)
unfolding all
all_step f l i d h = ap (all f) (cons_at l i d h)

pub all_end : {X : Type 0} (f : X → Bool) (l : List X) (i : ℕ) → i ≡ length l → all f (drop i l) ≡ true
unfolding all
all_end f l i e = ap (all f) (none_at l i e)
