-- Laws of contexts as strings: their length and symbols, their equality, and what begins what. Assumes nothing.
use Prim.Native.Nat.{ℕ, zero, suc, ◌≤◌, ◌<◌}
use mathlib.Core.Path.{◌≡◌, refl, subst}
use mathlib.Core.List.{List, [], ◌∷◌}
use native.Mathlib.Omega.{arith}
use lib.ListN.{length, take}
use lib.Dec.{T, eqb, ltb, eqb→eq, eqb_refl, ltb→lt, lt→ltb}
use Rattle.numbers.proofs.Tests.{both, left, right}
use Rattle.contexts.specs.Context.{is_context, eqs, begins}

-- ---- a context

module _ (A d a : ℕ) (s : List ℕ) (c : T (is_context A (suc d) (a ∷ s))) where
  pub newest_below : a < A
  unfolding is_context
  newest_below = ltb→lt a A (left (ltb a A) (is_context A d s) c)

  pub older_context : T (is_context A d s)
  unfolding is_context
  older_context = right (ltb a A) (is_context A d s) c

pub context_cons : (A d a : ℕ) (s : List ℕ) → a < A → T (is_context A d s) → T (is_context A (suc d) (a ∷ s))
unfolding is_context
context_cons A d a s l c = both (ltb a A) (is_context A d s) (lt→ltb a A l) c

pub context_length : (A d : ℕ) (s : List ℕ) → T (is_context A d s) → length s ≤ d
unfolding is_context
context_length A d [] c = omega arith
context_length A zero (a ∷ s) c = absurd c
context_length A (suc d) (a ∷ s) c = let h = context_length A d s (right (ltb a A) (is_context A d s) c) in omega arith

-- a context of a smaller alphabet and depth is one of a larger
pub context_more : (A B d e : ℕ) (s : List ℕ) → A ≤ B → d ≤ e → T (is_context A d s) → T (is_context B e s)
unfolding is_context
context_more A B d e [] p q c = tt
context_more A B zero e (a ∷ s) p q c = absurd c
context_more A B (suc d) zero (a ∷ s) p q c = absurd (omega arith)
context_more A B (suc d) (suc e) (a ∷ s) p q c =
    let l = newest_below A d a s c in
    context_cons B e a s (omega arith) (context_more A B d e s p (omega arith) (older_context A d a s c))

-- ---- equality

pub eqs→eq : (s t : List ℕ) → T (eqs s t) → s ≡ t
eqs→eq [] [] h = refl
eqs→eq [] (b ∷ t) h = absurd h
eqs→eq (a ∷ s) [] h = absurd h
eqs→eq (a ∷ s) (b ∷ t) h =
    let e = eqb→eq a b (left (eqb a b) (eqs s t) h) in
    let f = eqs→eq s t (right (eqb a b) (eqs s t) h) in
    cc

pub eqs_refl : (s : List ℕ) → T (eqs s s)
eqs_refl [] = tt
eqs_refl (a ∷ s) = both (eqb a a) (eqs s s) (eqb_refl a) (eqs_refl s)

pub eq→eqs : (s t : List ℕ) → s ≡ t → T (eqs s t)
eq→eqs s t e = subst (λ (r : List ℕ). T (eqs s r)) e (eqs_refl s)

-- ---- what begins a string

pub begins→take : (s t : List ℕ) → T (begins s t) → take (length s) t ≡ s
begins→take [] t h = refl
begins→take (a ∷ s) [] h = absurd h
begins→take (a ∷ s) (b ∷ t) h =
    let e = eqb→eq a b (left (eqb a b) (begins s t) h) in
    let f = begins→take s t (right (eqb a b) (begins s t) h) in
    cc

pub begins_take : (n : ℕ) (t : List ℕ) → T (begins (take n t) t)
begins_take zero t = tt
begins_take (suc n) [] = tt
begins_take (suc n) (b ∷ t) = both (eqb b b) (begins (take n t) t) (eqb_refl b) (begins_take n t)

pub take→begins : (s t : List ℕ) → take (length s) t ≡ s → T (begins s t)
take→begins s t e = subst (λ (r : List ℕ). T (begins r t)) e (begins_take (length s) t)
