-- What is one to one below a number takes each number below it once, and a sum does not depend on the order of its terms. Assumes nothing.
use Prim.Native.Nat.{ℕ, zero, suc, ◌+◌, ◌≤◌, ◌<◌}
use native.Mathlib.Nat.{le_refl, le-suc, le_trans}
use native.Mathlib.Omega.{arith}
use mathlib.Core.Path.{◌≡◌, sym, ap, ◌∙◌}
use mathlib.Core.Bool.{Bool, cond}
use lib.Dec.{T, eqb, eqb→eq}
use borrow.Author.Tests.{eq-eqb, ne_eqb}
use Rattle.numbers.specs.Sum.{sum}
use Rattle.numbers.specs.Renames.{Renames}
use Rattle.numbers.proofs.Tests.{T?, bool_ext, is_true, is_false}
use Rattle.numbers.proofs.Orders.{less, same, more, order, eq→eqb, eqb_sym}
use Rattle.numbers.proofs.Sums.{sum_cong, sum_add, sum_zero, sum_same, sum_tight}

-- ---- sums

pub sum_swap : (m n : ℕ) (f : ℕ → ℕ → ℕ) → sum m (λ a. sum n (f a)) ≡ sum n (λ b. sum m (λ a. f a b))
unfolding sum
sum_swap zero n f = sym (sum_zero n (λ b l. omega arith))
sum_swap (suc m) n f = omega (arith, sum_swap m n f, sum_add n (λ b. sum m (λ a. f a b)) (f m))

-- what a function is at one number, as a sum of which it is the only term
pub sum_only : (n b : ℕ) (h : ℕ → ℕ) → b < n → sum n (λ c. cond (eqb c b) (h c) 0) ≡ h b
unfolding sum
sum_only zero b h l = absurd (omega arith)
sum_only (suc n) b h l = elim (order b n) [
  | less m ↦ rw (ne_eqb n b (λ q. omega arith)) (let k = sum_only n b h m in omega arith)
  | same e ↦ let k : sum n (λ c. cond (eqb c b) (h c) 0) ≡ 0 = sum_zero n (λ c m. rw (ne_eqb c b (λ q. omega arith))) in rw (eq-eqb n b (sym e)) (omega (arith, k, ap h e))
  | more m ↦ absurd (omega arith)
]

-- ---- how often a test passes

often : ℕ → (ℕ → Bool) → ℕ
often n f = sum n (λ a. cond (f a) 1 0)

at_most_one : (n : ℕ) (f : ℕ → Bool) → ((a b : ℕ) → a < n → b < n → T (f a) → T (f b) → a ≡ b) → often n f ≤ 1
unfolding sum often
at_most_one zero f u = omega arith
at_most_one (suc n) f u = go (T? (f n)) (at_most_one n f (λ a b l m. u a b (omega arith) (omega arith)))
  where
    go : Dec (T (f n)) → sum n (λ a. cond (f a) 1 0) ≤ 1 → sum n (λ a. cond (f a) 1 0) + cond (f n) 1 0 ≤ 1
    go (yes t) h =
        let none : sum n (λ a. cond (f a) 1 0) ≡ 0 = sum_zero n (λ a l. rw (is_false (f a) (λ s. let e = u a n (omega arith) (le_refl (suc n)) s t in omega arith))) in
        rw (is_true (f n) t) (omega arith)
    go (no q) h = rw (is_false (f n) q) (omega arith)

-- .. and if it ever does, where
found : (n : ℕ) (f : ℕ → Bool) → 1 ≤ often n f → (a : ℕ) × (a < n) × T (f a)
unfolding sum often
found zero f p = absurd (omega arith)
found (suc n) f p = go (T? (f n)) (found n f) p
  where
    go : Dec (T (f n)) → (1 ≤ sum n (λ a. cond (f a) 1 0) → (a : ℕ) × (a < n) × T (f a)) → 1 ≤ sum n (λ a. cond (f a) 1 0) + cond (f n) 1 0
        → (a : ℕ) × (a < suc n) × T (f a)
    go (yes t) before p = (n, le_refl (suc n), t)
    go (no q) before p =
        let e : ◌≡◌ {A = ℕ} (cond (f n) 1 0) 0 = rw (is_false (f n) q) in
        let h = before (omega arith) in
        (h.0, le_trans h.1 (le-suc n), h.2)

-- ---- a renaming

module _ (n : ℕ) (π : ℕ → ℕ) (r : Renames n π) where
  -- two names are the same where the numbers are
  pub same_name : (a b : ℕ) → a < n → b < n → eqb (π a) (π b) ≡ eqb a b
  same_name a b l m =
      bool_ext (eqb (π a) (π b)) (eqb a b) (λ h. eq→eqb a b (r.once a b l m (eqb→eq (π a) (π b) h))) (λ h. eq→eqb (π a) (π b) (ap π (eqb→eq a b h)))

  -- how many numbers are named b: one at most, and all of them together n
  named : ℕ → ℕ
  named b = often n (λ a. eqb b (π a))

  named_once : (b : ℕ) → b < n → named b ≤ 1
  unfolding named
  named_once b l = at_most_one n (λ a. eqb b (π a)) (λ a c i j s t. r.once a c i j (sym (eqb→eq b (π a) s) ∙ eqb→eq b (π c) t))

  all_named : n ≤ sum n named
  unfolding named often
  all_named =
      let each : sum n (λ a. sum n (λ b. cond (eqb b (π a)) 1 0)) ≡ sum n (λ a. 1) = sum_cong n (λ a l. sum_only n (π a) (λ c. 1) (r.within a l)) in
      omega (arith, each, sum_same n 1, sum_swap n n (λ a b. cond (eqb b (π a)) 1 0))

  -- every number below n is the name of one
  pub onto : (b : ℕ) → b < n → (a : ℕ) × (a < n) × (π a ≡ b)
  unfolding named
  onto b l =
      let h = found n (λ a. eqb b (π a)) (sum_tight n {f = named} {g = λ c. 1} named_once (omega (arith, all_named, sum_same n 1)) b l) in
      (h.0, h.1, sym (eqb→eq b (π h.0) h.2))

  -- THEOREM. A sum over the names is the sum over the numbers
  pub sum_permute : (g : ℕ → ℕ) → sum n (λ a. g (π a)) ≡ sum n g
  sum_permute g =
      sym (sum_cong n (λ a l. sum_only n (π a) g (r.within a l))) ∙ sum_swap n n (λ a b. cond (eqb b (π a)) (g b) 0) ∙ sum_cong n (λ b l. term b (onto b l))
    where
      term : (b : ℕ) → (a : ℕ) × (a < n) × (π a ≡ b) → sum n (λ a. cond (eqb b (π a)) (g b) 0) ≡ g b
      term b (a, l, e) =
          sum_cong n {g = λ c. cond (eqb c a) (g b) 0}
          (λ c m. ap (λ (t : Bool). cond t (g b) 0) (ap (λ (v : ℕ). eqb v (π c)) (sym e) ∙ same_name a c l m ∙ eqb_sym a c))
          ∙ sum_only n a (λ c. g b) l
