-- Contexts and counts under a one-to-one renaming of the symbols: N of renamed strings, for any first counted place, and the contexts held. Assumes nothing.
use Prim.Native.Nat.{ℕ, zero, suc, ◌+◌, ◌<◌}
use native.Mathlib.Omega.{arith}
use mathlib.Core.Path.{◌≡◌, refl, sym, ap, ap₂, subst, ◌∙◌}
use mathlib.Core.Bool.{◌&&◌}
use mathlib.Core.List.{List, [], ◌∷◌, map}
use lib.ListN.{length, length-map}
use lib.Dec.{T, eqb, ltb, leb}
use Rattle.numbers.specs.Sum.{one, sum}
use Rattle.numbers.specs.Renames.{Renames}
use Rattle.numbers.proofs.Sums.{sum_cong}
use Rattle.numbers.proofs.Permuting.{same_name, onto, sum_permute}
use Rattle.contexts.specs.Context.{is_context, begins}
use Rattle.contexts.specs.Counts.{N}
use Rattle.contexts.specs.Strings.{under, total}
use Rattle.contexts.specs.Sitting.{Sample, first, second, sitting_of, is_held, contexts_held}
use Rattle.contexts.proofs.Strings.{newest_below, older_context, context_cons}
use Rattle.contexts.proofs.Totalling.{total_within}
use Rattle.contexts.proofs.Totals.{Over}

module _ (A : ℕ) (π : ℕ → ℕ) (r : Renames A π) where
  -- ---- contexts

  pub context_renamed : (d : ℕ) (s : List ℕ) → T (is_context A d s) → T (is_context A d (map π s))
  unfolding is_context
  context_renamed d [] c = tt
  context_renamed zero (a ∷ s) c = absurd c
  context_renamed (suc d) (a ∷ s) c = context_cons A d (π a) (map π s) (r.within a (newest_below A d a s c)) (context_renamed d s (older_context A d a s c))

  pub over_renamed : (past : List ℕ) → Over A past → Over A (map π past)
  over_renamed past o = subst (λ (n : ℕ). T (is_context A n (map π past))) (sym (length-map past π)) (context_renamed (length past) past o)

  -- every context is the new name of one ..
  pub context_onto : (d : ℕ) (u : List ℕ) → T (is_context A d u) → (s : List ℕ) × T (is_context A d s) × (map π s ≡ u)
  unfolding is_context
  context_onto d [] c = ([], tt, refl)
  context_onto zero (b ∷ u) c = absurd c
  context_onto (suc d) (b ∷ u) c =
      let x = onto A π r b (newest_below A d b u c) in
      let y = context_onto d u (older_context A d b u c) in
      (x.0 ∷ y.0, context_cons A d x.0 y.0 x.1 y.1, ap₂ {C = List ℕ} ◌∷◌ x.2 y.2)

  -- .. and of one only
  pub context_once : (d : ℕ) (s t : List ℕ) → T (is_context A d s) → T (is_context A d t) → map π s ≡ map π t → s ≡ t
  unfolding is_context
  context_once d [] [] c o e = refl
  context_once d [] (b ∷ t) c o e = let z : ◌≡◌ {A = ℕ} 0 (suc (length (map π t))) = ap length e in absurd (omega arith)
  context_once d (a ∷ s) [] c o e = let z : ◌≡◌ {A = ℕ} (suc (length (map π s))) 0 = ap length e in absurd (omega arith)
  context_once zero (a ∷ s) (b ∷ t) c o e = absurd c
  context_once (suc d) (a ∷ s) (b ∷ t) c o e =
      let h : π a ≡ π b = cc in
      let k : map π s ≡ map π t = cc in
      ap₂ {C = List ℕ} ◌∷◌ (r.once a b (newest_below A d a s c) (newest_below A d b t o) h) (context_once d s t (older_context A d a s c) (older_context A d b t o) k)

  -- ---- counts

  begins_renamed : (d e : ℕ) (s t : List ℕ) → T (is_context A d s) → T (is_context A e t) → begins (map π s) (map π t) ≡ begins s t
  unfolding is_context
  begins_renamed d e [] t c o = refl
  begins_renamed d e (a ∷ s) [] c o = refl
  begins_renamed zero e (a ∷ s) (b ∷ t) c o = absurd c
  begins_renamed (suc d) zero (a ∷ s) (b ∷ t) c o = absurd o
  begins_renamed (suc d) (suc e) (a ∷ s) (b ∷ t) c o =
      ap₂ ◌&&◌ (same_name A π r a b (newest_below A d a s c) (newest_below A e b t o)) (begins_renamed d e s t (older_context A d a s c) (older_context A e b t o))

  -- THEOREM. N(s,a) is what N is of the new names in the renamed string
  pub N_renamed : (from d : ℕ) (past s : List ℕ) (a : ℕ) → Over A past → T (is_context A d s) → a < A → N from (map π past) (map π s) (π a) ≡ N from past s a
  unfolding N
  N_renamed from d [] s a o c l = refl
  N_renamed from d (x ∷ past) s a o c l =
      let p : Over A past = older_context A (length past) x past o in
      let before : leb from (length (map π past)) ≡ leb from (length past) = ap (leb from) (length-map past π) in
      let context : begins (map π s) (map π past) ≡ begins s past = begins_renamed d (length past) s past c p in
      let symbol : eqb (π x) (π a) ≡ eqb x a = same_name A π r x a (newest_below A (length past) x past o) l in
      ap₂ ◌+◌ (N_renamed from d past s a p c l) (ap one (ap₂ ◌&&◌ before (ap₂ ◌&&◌ context symbol)))

  -- ---- contexts held

  -- a sum over all strings does not depend on their names
  total_renamed : (d : ℕ) (g : List ℕ → ℕ) → total A d (λ s. g (map π s)) ≡ total A d g
  unfolding total
  total_renamed zero g = refl
  total_renamed (suc d) g = ap (λ (n : ℕ). g [] + n) (sum_cong A (λ a l. total_renamed d (under (π a) g)) ∙ sum_permute A π r (λ a. total A d (under a g)))

  module _ (D weight from : ℕ) (w : Sample → List ℕ) (over : (i : Sample) → Over A (w i)) where
    total_in_lem : (i : Sample) (s : List ℕ) → T (is_context A D s) → sum A (N from (map π (w i)) (map π s)) ≡ sum A (N from (w i) s)
    total_in_lem i s c = sym (sum_permute A π r (N from (map π (w i)) (map π s))) ∙ sum_cong A (λ a l. N_renamed from D (w i) s a (over i) c l)

    -- THEOREM. The renamed strings hold as many contexts
    pub held_renamed : contexts_held (sitting_of A D weight from (λ i. map π (w i))) ≡ contexts_held (sitting_of A D weight from w)
    held_renamed =
        sym (total_renamed D (λ s. one (is_held (sitting_of A D weight from (λ i. map π (w i))) s)))
        ∙ total_within A D (λ s c. ap (λ (n : ℕ). one (ltb 0 n)) (ap₂ ◌+◌ (total_in_lem first s c) (total_in_lem second s c)))
