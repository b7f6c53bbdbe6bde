-- The row order of contexts: of two contexts one precedes, or they are the same; none precedes itself. Assumes nothing.
use Prim.Native.Nat.{ℕ, ◌<◌}
use mathlib.Core.Path.{◌≡◌, refl, ap₂, subst}
use mathlib.Core.Bool.{◌&&◌}
use mathlib.Core.List.{List, [], ◌∷◌}
use native.Mathlib.Omega.{arith}
use lib.Dec.{T, eqb, ltb, eqb→eq, ltb→lt, lt→ltb, eqb_refl}
use Rattle.numbers.proofs.Tests.{both, left, right, or_left, or_right, or_rest}
use Rattle.numbers.proofs.Orders.{less, same, more, order}
use Rattle.contexts.specs.Context.{precedes}

pub precedes_less : (a b : ℕ) (s t : List ℕ) → a < b → T (precedes (a ∷ s) (b ∷ t))
precedes_less a b s t l = or_left (ltb a b) (eqb a b && precedes s t) (lt→ltb a b l)

pub precedes_older : (a : ℕ) (s t : List ℕ) → T (precedes s t) → T (precedes (a ∷ s) (a ∷ t))
precedes_older a s t p = or_right (ltb a a) (eqb a a && precedes s t) (both (eqb a a) (precedes s t) (eqb_refl a) p)

-- what a step of the order found: a smaller symbol, or the same one and the order of the rest
pub data Step (a b : ℕ) (s t : List ℕ) : Type 0 where
  smaller : a < b → Step a b s t
  equal : a ≡ b → T (precedes s t) → Step a b s t

pub precedes_step : (a b : ℕ) (s t : List ℕ) → T (precedes (a ∷ s) (b ∷ t)) → Step a b s t
precedes_step a b s t p = elim (order a b) [
  | less l ↦ smaller l
  | same e ↦ let r = rest (λ l. omega arith) in equal e (right (eqb a b) (precedes s t) r)
  | more l ↦ let r = rest (λ k. omega arith) in absurd (let e = eqb→eq a b (left (eqb a b) (precedes s t) r) in omega arith)
]
  where
    rest : (a < b → ⊥) → T (eqb a b && precedes s t)
    rest n = or_rest (ltb a b) (eqb a b && precedes s t) p (λ l. n (ltb→lt a b l))

-- how two contexts stand in the row order
pub data Ordered (s t : List ℕ) : Type 0 where
  earlier : T (precedes s t) → Ordered s t
  equal : s ≡ t → Ordered s t
  later : T (precedes t s) → Ordered s t

pub ordered : (s t : List ℕ) → Ordered s t
ordered [] [] = equal refl
ordered [] (b ∷ t) = earlier tt
ordered (a ∷ s) [] = later tt
ordered (a ∷ s) (b ∷ t) =
    elim (order a b) [
      | less l ↦ earlier (precedes_less a b s t l)
      | same e ↦ elim (ordered s t) [
        | earlier p ↦ earlier (subst (λ (c : ℕ). T (precedes (a ∷ s) (c ∷ t))) e (precedes_older a s t p))
        | equal q ↦ equal (ap₂ {C = List ℕ} (λ (c : ℕ) (r : List ℕ). c ∷ r) e q)
        | later p ↦ later (subst (λ (c : ℕ). T (precedes (c ∷ t) (a ∷ s))) e (precedes_older a t s p))
      ]
      | more l ↦ later (precedes_less b a t s l)
    ]

pub precedes_asym : (s t : List ℕ) → T (precedes s t) → T (precedes t s) → ⊥
precedes_asym [] [] p q = p
precedes_asym [] (b ∷ t) p q = q
precedes_asym (a ∷ s) [] p q = p
precedes_asym (a ∷ s) (b ∷ t) p q = go (precedes_step a b s t p) (precedes_step b a t s q) (precedes_asym s t)
  where
    go : Step a b s t → Step b a t s → (T (precedes s t) → T (precedes t s) → ⊥) → ⊥
    go (smaller l) (smaller k) ih = omega arith
    go (smaller l) (equal e k) ih = omega arith
    go (equal e l) (smaller k) ih = omega arith
    go (equal e l) (equal f k) ih = ih l k
