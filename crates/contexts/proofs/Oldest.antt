-- Laws of contexts with an oldest symbol: `p ++ a ∷ []` has the parent p. Assumes nothing.
use mathlib.Core.Path.{◌≡◌, refl, ap, ap₂, ◌∙◌}
use mathlib.Core.Logic.{◌⊎◌, inl, inr}
use mathlib.Core.List.{List, [], ◌∷◌, ◌++◌}
use Prim.Native.Nat.{ℕ, zero, suc, ◌-◌, ◌<◌}
use native.Mathlib.Omega.{arith}
use lib.ListN.{length, length-append}
use lib.Seq.{take_at}
use lib.Dec.{T, eqb, eqb→eq}
use Rattle.numbers.proofs.Tests.{both, left, right}
use Rattle.contexts.specs.Context.{is_context, parent_of, begins}
use Rattle.contexts.proofs.Strings.{newest_below, older_context, context_cons}

-- a context is empty, or has an oldest symbol
pub data Oldest (s : List ℕ) : Type 0 where
  none : s ≡ [] → Oldest s
  some : (p : List ℕ) (a : ℕ) → s ≡ p ++ a ∷ [] → Oldest s

pub oldest : (s : List ℕ) → Oldest s
oldest [] = none refl
oldest (x ∷ s) = elim (oldest s) [
  | none e ↦ some [] x (ap {B = List ℕ} (λ t. x ∷ t) e)
  | some p a e ↦ some (x ∷ p) a (ap {B = List ℕ} (λ t. x ∷ t) e)
]

pub parent_snoc : (p : List ℕ) (a : ℕ) → parent_of (p ++ a ∷ []) ≡ p
parent_snoc p a = take_at p (a ∷ []) (length (p ++ a ∷ []) - 1) (omega (arith, length-append p (a ∷ [])))

pub length_snoc : (p : List ℕ) (a : ℕ) → length (p ++ a ∷ []) ≡ suc (length p)
length_snoc p a = length-append p (a ∷ []) ∙ omega arith

pub context_parent : (A d : ℕ) (p : List ℕ) (a : ℕ) → T (is_context A d (p ++ a ∷ [])) → T (is_context A d p)
unfolding is_context
context_parent A d [] a c = tt
context_parent A zero (x ∷ p) a c = absurd c
context_parent A (suc d) (x ∷ p) a c =
    context_cons A d x p (newest_below A d x (p ++ a ∷ []) c) (context_parent A d p a (older_context A d x (p ++ a ∷ []) c))

pub oldest_below : (A d : ℕ) (p : List ℕ) (a : ℕ) → T (is_context A d (p ++ a ∷ [])) → a < A
unfolding is_context
oldest_below A zero [] a c = absurd c
oldest_below A (suc d) [] a c = newest_below A d a [] c
oldest_below A zero (x ∷ p) a c = absurd c
oldest_below A (suc d) (x ∷ p) a c = oldest_below A d p a (older_context A d x (p ++ a ∷ []) c)

pub context_snoc : (A d : ℕ) (p : List ℕ) (a : ℕ) → T (is_context A d p) → a < A → length p < d → T (is_context A d (p ++ a ∷ []))
unfolding is_context
context_snoc A zero p a c l h = absurd (omega arith)
context_snoc A (suc d) [] a c l h = context_cons A d a [] l tt
context_snoc A (suc d) (x ∷ p) a c l h =
    context_cons A d x (p ++ a ∷ []) (newest_below A d x p c) (context_snoc A d p a (older_context A d x p c) l (omega arith))

-- what begins a context is the whole of it, or begins its parent
pub begins_cut : (t p : List ℕ) (a : ℕ) → T (begins t (p ++ a ∷ [])) → (t ≡ p ++ a ∷ []) ⊎ T (begins t p)
begins_cut [] p a h = inr tt
begins_cut (x ∷ []) [] a h = inl (ap (λ (y : ℕ). y ∷ []) (eqb→eq x a (left (eqb x a) _ h)))
begins_cut (x ∷ y ∷ t) [] a h = absurd (right (eqb x a) (begins (y ∷ t) []) h)
begins_cut (x ∷ t) (y ∷ p) a h = elim (begins_cut t p a (right (eqb x y) (begins t (p ++ a ∷ [])) h)) [
  | inl e ↦ inl (ap₂ {C = List ℕ} (λ (z : ℕ) (r : List ℕ). z ∷ r) (eqb→eq x y (left (eqb x y) (begins t (p ++ a ∷ [])) h)) e)
  | inr b ↦ inr (both (eqb x y) (begins t p) (left (eqb x y) (begins t (p ++ a ∷ [])) h) b)
]
