-- The trees and triples that the recursion chooses among are complete, and admissible. Assumes nothing.
use Prim.Native.Nat.{ℕ, zero, suc, ◌<◌}
use mathlib.Core.Path.{◌≡◌, refl, sym, subst, fun_ext}
use mathlib.Core.Bool.{and-or_distrib_left}
use mathlib.Core.List.{List, [], ◌∷◌, ◌++◌}
use lib.Dec.{T, leb, ltb, ltb→lt, lt→ltb}
use Rattle.numbers.proofs.Tests.{both, left, right, choose}
use Rattle.contexts.specs.Context.{is_context}
use Rattle.contexts.specs.Strings.{under}
use Rattle.contexts.specs.Sitting.{Sample}
use Rattle.estimate.specs.Trees.{Contexts, In, Complete, shared, own, Triple, tree_of, Admissible, root, shared_leaf, separate_trees}
use Rattle.estimate.specs.Recursion.{split, tree, split_both}

-- ---- complete trees

complete_same : {A d : ℕ} {t u : Contexts} → ((s : List ℕ) → t s ≡ u s) → Complete A d u → Complete A d t
complete_same {A} {d} e c = subst (Complete A d) (sym (fun_ext e)) c

pub root_complete : (A d : ℕ) → Complete A d root
unfolding is_context
root_complete A d = record { fits = fits; some = ([], tt); apart = apart; full = full }
  where
    fits : (s : List ℕ) → In s root → T (is_context A d s)
    fits [] m = tt
    fits (a ∷ s) m = absurd m

    apart : (s u : List ℕ) → In s root → In (s ++ u) root → u ≡ []
    apart [] [] m n = refl
    apart [] (a ∷ u) m n = absurd n
    apart (b ∷ s) u m n = absurd m

    full : (s : List ℕ) (a : ℕ) (u : List ℕ) → In (s ++ (a ∷ u)) root → (b : ℕ) → b < A → (v : List ℕ) × In (s ++ (b ∷ v)) root
    full [] a u m = absurd m
    full (c ∷ s) a u m = absurd m

pub split_complete : (A d : ℕ) (g : ℕ → Contexts) → 0 < A → ((a : ℕ) → a < A → Complete A d (g a)) → Complete A (suc d) (split A g)
unfolding is_context
split_complete A d g p c = record { fits = fits; some = (0 ∷ (c 0 p).some.0, both (ltb 0 A) _ (lt→ltb 0 A p) (c 0 p).some.1); apart = apart; full = full }
  where
    low : (a : ℕ) (s : List ℕ) → In (a ∷ s) (split A g) → a < A
    low a s m = ltb→lt a A (left (ltb a A) (g a s) m)

    fits : (s : List ℕ) → In s (split A g) → T (is_context A (suc d) s)
    fits [] m = tt
    fits (a ∷ s) m = both (ltb a A) (is_context A d s) (left (ltb a A) (g a s) m) ((c a (low a s m)).fits s (right (ltb a A) (g a s) m))

    apart : (s u : List ℕ) → In s (split A g) → In (s ++ u) (split A g) → u ≡ []
    apart [] u m n = absurd m
    apart (a ∷ s) u m n = (c a (low a s m)).apart s u (right (ltb a A) (g a s) m) (right (ltb a A) (g a (s ++ u)) n)

    full : (s : List ℕ) (a : ℕ) (u : List ℕ) → In (s ++ (a ∷ u)) (split A g) → (b : ℕ) → b < A → (v : List ℕ) × In (s ++ (b ∷ v)) (split A g)
    full [] a u m b l = ((c b l).some.0, both (ltb b A) _ (lt→ltb b A l) (c b l).some.1)
    full (e ∷ s) a u m b l =
        let k = low e (s ++ (a ∷ u)) m in
        let r = (c e k).full s a u (right (ltb e A) _ m) b l in
        (r.0, both (ltb e A) _ (lt→ltb e A k) r.1)

pub tree_complete : (A d : ℕ) (f : List ℕ → ℕ) → 0 < A → Complete A d (tree A d f)
unfolding tree
tree_complete A zero f p = root_complete A zero
tree_complete A (suc d) f p =
    choose (Complete A (suc d)) (leb (f []) _) _ _ (root_complete A (suc d)) (split_complete A d _ p (λ a l. tree_complete A d (under a f) p))

-- ---- admissible triples

pub shared_admissible : (A d : ℕ) → Admissible A d shared_leaf
shared_admissible A d = record { complete = λ i. complete_same (same i) (root_complete A d); disjoint = λ i s m n. n }
  where
    same : (i : Sample) (s : List ℕ) → tree_of shared_leaf i s ≡ root s
    same i [] = refl
    same i (a ∷ s) = refl

pub separate_admissible : (A d : ℕ) (g : Sample → Contexts) → ((i : Sample) → Complete A d (g i)) → Admissible A d (separate_trees g)
separate_admissible A d g c = record { complete = c; disjoint = λ i s m n. m }

pub split_admissible : (A d : ℕ) (h : ℕ → Triple) → 0 < A → ((a : ℕ) → a < A → Admissible A d (h a)) → Admissible A (suc d) (split_both A h)
split_admissible A d h p c = record { complete = λ i. complete_same (same i) (split_complete A d (λ a. tree_of (h a) i) p (λ a l. (c a l).complete i)); disjoint = disjoint }
  where
    same : (i : Sample) (s : List ℕ) → tree_of (split_both A h) i s ≡ split A (λ a. tree_of (h a) i) s
    same i [] = refl
    same i (a ∷ s) = sym (and-or_distrib_left (ltb a A) (h a shared s) (h a (own i) s))

    disjoint : (i : Sample) (s : List ℕ) → In s (split_both A h shared) → In s (split_both A h (own i)) → ⊥
    disjoint i [] m n = m
    disjoint i (a ∷ s) m n = (c a (ltb→lt a A (left (ltb a A) _ m))).disjoint i s (right (ltb a A) _ m) (right (ltb a A) _ n)
