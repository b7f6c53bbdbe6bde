-- The estimate is the only best triple that keeps the tie rules of document 01. Assumes nothing.
use Prim.Native.Nat.{ℕ, suc, ◌≤◌, ◌<◌}
use native.Mathlib.Omega.{arith}
use mathlib.Core.Path.{◌≡◌, sym, ap, subst, fun_ext}
use mathlib.Core.Logic.{⊎_elim}
use mathlib.Core.List.{List, [], ◌∷◌, ◌++◌}
use Rattle.numbers.proofs.Tests.{is_false, or_left, or_right, or_rest}
use Rattle.numbers.proofs.Sums.{sum_tight}
use Rattle.contexts.specs.Context.{is_context}
use Rattle.contexts.specs.Strings.{total}
use Rattle.contexts.specs.Sitting.{Sample, first, second, Sitting}
use Rattle.contexts.proofs.Strings.{newest_below, context_cons}
use Rattle.contexts.proofs.Totalling.{total_root}
use Rattle.estimate.specs.Trees.{In, Kind, shared, own, Triple, Admissible, shared_leaf, separate_trees, below}
use Rattle.estimate.specs.Score.{Worths, worths, Best}
use Rattle.estimate.specs.Ties.{NothingShared, JointRule, SplitTo, GoesTo, KeepsTies}
use Rattle.estimate.specs.Recursion.{Losses, losses, best, separate, joint, tree, split_both, estimate, estimate_of}
use Rattle.estimate.proofs.Loss.{set_loss, loss_at, loss, loss_sets, minus_all, worths_losses, more_score, less_loss}
use Rattle.estimate.proofs.Least.{counted_yes, Top, leaf, apart, inner, top, child_admissible, tree_least, tree_own, own_complete, separate_least, joint_least}
use Rattle.estimate.proofs.Whole.{tree_complete}
use Rattle.estimate.proofs.Choice.{by_choice, estimate_admissible, estimate_loss, shared_loss, separate_loss, joint_le, joint_split}
use Rattle.estimate.proofs.LeafTies.{LeafRules, split_same, tree_unique}

module _ (A d : ℕ) (f : Losses) (t : Triple) (p : 0 < A) (c : Admissible A d t) (l : loss A d f t ≤ joint A d f) (r : KeepsTies A d (minus_all f) t) where
  at_root : JointRule A d (minus_all f) t
  unfolding is_context SplitTo
  at_root = r.joint [] d tt (omega arith) tt

  is_leaf : f shared [] ≤ joint A d f → t ≡ shared_leaf
  is_leaf h = at_root.shared_first (more_score A d f t shared_leaf (omega (arith, shared_loss A d f, joint_least A d f t c)))

  -- where nothing is shared, each tree is the recursion's
  own_is : NothingShared t → (i : Sample) → t (own i) ≡ tree A d (f (own i))
  own_is n i = tree_unique A d (f (own i)) (t (own i)) (own_complete c n i) (low i) rules
    where
      least : (i : Sample) → best A d (f (own i)) ≤ total A d (set_loss (f (own i)) (t (own i)))
      least i = tree_least A d (f (own i)) (t (own i)) (own_complete c n i)

      low : (i : Sample) → total A d (set_loss (f (own i)) (t (own i))) ≤ best A d (f (own i))
      low first = omega (arith, loss_sets A d f t, least second, joint_le A d f)
      low second = omega (arith, loss_sets A d f t, least first, joint_le A d f)

      rules : LeafRules A d (f (own i)) (t (own i))
      rules s e x q g = r.separate i s e x q (subst (GoesTo s) (sym (tree_own t n i)) g) (λ u. n (s ++ u))

  are_trees : joint A d f < f shared [] → separate A d f ≤ joint A d f → t ≡ separate_trees (λ i. tree A d (f (own i)))
  are_trees h k =
      ⊎_elim
      (λ (e : t ≡ shared_leaf). absurd (omega (arith, ap (loss A d f) e, shared_loss A d f)))
      (λ (n : NothingShared t). fun_ext (λ x. each n x))
      (at_root.separate_next (λ i. tree A d (f (own i))) (λ i. tree_complete A d (f (own i)) p)
      (more_score A d f t (separate_trees (λ i. tree A d (f (own i)))) (omega (arith, separate_loss A d f, joint_least A d f t c))))
    where
      each : NothingShared t → (x : Kind) → t x ≡ separate_trees (λ i. tree A d (f (own i))) x
      each n shared = fun_ext (λ s. is_false (t shared s) (n s))
      each n (own i) = own_is n i

-- both trees are split: the root is no member, and something is shared
module _ (A d : ℕ) (f : Losses) (t : Triple) (c : Admissible A (suc d) t) (l : loss A (suc d) f t ≤ joint A (suc d) f)
    (h : joint A (suc d) f < f shared []) (k : joint A (suc d) f < separate A (suc d) f) where
  some_shared : NothingShared t → ⊥
  some_shared n = omega (arith, separate_least A (suc d) f t c n)

  no_root : (x : Kind) → In [] (t x) → ⊥
  no_root = go (top c)
    where
      go : Top t → (x : Kind) → In [] (t x) → ⊥
      go (leaf m) = absurd (omega (arith, counted_yes (t shared []) (f shared []) m, total_root A (suc d) (loss_at f t)))
      go (apart n) = absurd (some_shared n)
      go (inner n) = n

  -- each child's triple loses what the recursion says there
  child_low : (a : ℕ) → a < A → loss A d (below a f) (below a t) ≤ joint A d (below a f)
  unfolding total
  child_low =
      sum_tight A {f = λ a. joint A d (below a f)} (λ a m. joint_least A d (below a f) (below a t) (child_admissible c no_root a m))
      (omega (arith, joint_split A d f h k))

  child_keeps : KeepsTies A (suc d) (minus_all f) t → (a : ℕ) → a < A → KeepsTies A d (minus_all (below a f)) (below a t)
  unfolding SplitTo GoesTo
  child_keeps r a m = record {
    joint = λ s e x q g. r.joint (a ∷ s) e (context_cons A d a s m x) (omega arith) (no_root, some_shared, g);
    separate = λ i s e x q g n.
        r.separate i (a ∷ s) e (context_cons A d a s m x) (omega arith) ((λ y. no_root (own i) (or_rest (t shared []) (t (own i) []) y (no_root shared))), g) n;
  }

  is_split : (g : ℕ → Triple) → ((a : ℕ) → a < A → below a t ≡ g a) → t ≡ split_both A g
  is_split g e = fun_ext (λ x. split_same A (t x) (λ a. g a x) (no_root x) (low x) (λ a m. ap (λ (u : Triple). u x) (e a m)))
    where
      low : (x : Kind) (a : ℕ) (s : List ℕ) → In (a ∷ s) (t x) → a < A
      low shared a s m = newest_below A d a s ((c.complete first).fits (a ∷ s) (or_left (t shared (a ∷ s)) (t (own first) (a ∷ s)) m))
      low (own i) a s m = newest_below A d a s ((c.complete i).fits (a ∷ s) (or_right (t shared (a ∷ s)) (t (own i) (a ∷ s)) m))

-- THEOREM. The triple that loses least and keeps the tie rules is the estimate
pub estimate_unique : (A D : ℕ) (f : Losses) (t : Triple) → 0 < A → Admissible A D t → loss A D f t ≤ joint A D f → KeepsTies A D (minus_all f) t → t ≡ estimate A D f
estimate_unique A D f t p =
    by_choice A Part
    (λ d f h t c l r. is_leaf A d f t p c l r h)
    (λ d f h k t c l r. are_trees A d f t p c l r h k)
    (λ d f h k ih t c l r.
    is_split A d f t c l h k (λ a. estimate A d (below a f))
    (λ a m. ih a (below a t) (child_admissible c (no_root A d f t c l h k) a m) (child_low A d f t c l h k a m) (child_keeps A d f t c l h k r a m)))
    D f t
  where
    Part : ℕ → Losses → Triple → Type 0
    Part D f u = (t : Triple) → Admissible A D t → loss A D f t ≤ joint A D f → KeepsTies A D (minus_all f) t → t ≡ u

-- .. told by the score
pub only_best : (A D : ℕ) (f : Losses) (t : Triple) → 0 < A → Best A D (minus_all f) t → KeepsTies A D (minus_all f) t → t ≡ estimate A D f
only_best A D f t p b r = estimate_unique A D f t p b.admissible low r
  where
    low : loss A D f t ≤ joint A D f
    low = omega (arith, estimate_loss A D f, less_loss A D f (estimate A D f) t (b.most (estimate A D f) (estimate_admissible A D f p)))

-- THEOREM, of a sitting: with the documents' fits and costs
pub only_estimate : (x : Sitting) (t : Triple) → 0 < x.symbols → Best x.symbols x.depth (worths x) t → KeepsTies x.symbols x.depth (worths x) t → t ≡ estimate_of x
only_estimate x t p b r =
    only_best x.symbols x.depth (losses x) t p (subst (λ (w : Worths). Best x.symbols x.depth w t) (worths_losses x) b)
    (subst (λ (w : Worths). KeepsTies x.symbols x.depth w t) (worths_losses x) r)
