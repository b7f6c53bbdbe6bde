-- The estimate keeps the tie rules of document 01. Assumes nothing.
use Prim.Native.Nat.{ℕ, zero, suc, ◌+◌, ◌≤◌, ◌<◌}
use native.Mathlib.Omega.{arith}
use mathlib.Core.Path.{◌≡◌, refl, sym, ap, subst, fun_ext, ◌∙◌}
use mathlib.Core.Logic.{inl, inr}
use mathlib.Core.List.{List, [], ◌∷◌}
use lib.ListN.{length}
use lib.Dec.{T, ltb, lt→ltb}
use lib.Signed.{◌≤ℤ◌}
use Rattle.numbers.proofs.Tests.{and_yes}
use Rattle.numbers.proofs.Sums.{sum_cong}
use Rattle.contexts.specs.Context.{is_context}
use Rattle.contexts.specs.Sitting.{Sample, Sitting}
use Rattle.contexts.proofs.Strings.{newest_below, older_context}
use Rattle.estimate.specs.Trees.{Contexts, In, Complete, Kind, shared, own, Triple, tree_of, shared_leaf, separate_trees, below, from}
use Rattle.estimate.specs.Score.{Worths, worths, score}
use Rattle.estimate.specs.Ties.{NothingShared, JointRule, LeafRule, SplitTo, GoesTo, KeepsTies}
use Rattle.estimate.specs.Recursion.{Losses, losses, separate, joint, tree, split_both, estimate, estimate_of}
use Rattle.estimate.proofs.Loss.{loss, minus_all, worths_losses, less_loss}
use Rattle.estimate.proofs.Least.{separate_least}
use Rattle.estimate.proofs.Whole.{split_admissible}
use Rattle.estimate.proofs.Choice.{by_choice, estimate_admissible, estimate_loss, shared_loss, split_loss, joint_split}
use Rattle.estimate.proofs.LeafTies.{leaf_first, tree_from}

-- what loses no more than the recursion says is beaten by no shared leaf, and by no two separate trees, that the recursion found to lose more
module _ (A d : ℕ) (f : Losses) (t : Triple) (q : loss A d f t ≡ joint A d f) where
  no_leaf : joint A d f < f shared [] → score A d (minus_all f) t ≤ℤ score A d (minus_all f) shared_leaf → ⊥
  no_leaf h m = omega (arith, less_loss A d f t shared_leaf m, shared_loss A d f)

  no_trees : joint A d f < separate A d f → (g : Sample → Contexts) → ((i : Sample) → Complete A d (g i)) → score A d (minus_all f) t ≤ℤ score A d (minus_all f) (separate_trees g) → ⊥
  no_trees h g c m =
      omega (arith, less_loss A d f t (separate_trees g) m, separate_least A d f (separate_trees g) (record { complete = c; disjoint = λ i s m n. m }) (λ s m. m))

-- the rule at the root
joint_rule : (A d : ℕ) (f : Losses) → JointRule A d (minus_all f) (estimate A d f)
joint_rule A d f =
    by_choice A Rule
    (λ d f h q. record { shared_first = λ m. refl; separate_next = λ g c m. inl refl })
    (λ d f h k q.
    record {
      shared_first = λ m. absurd (no_leaf A d f (separate_trees (λ i. tree A d (f (own i)))) q h m);
      separate_next = λ g c m. inr (λ s n. n);
    })
    (λ d f h k ih q.
    record {
      shared_first = λ m. absurd (no_leaf A (suc d) f (split_both A (λ a. estimate A d (below a f))) q h m);
      separate_next = λ g c m. absurd (no_trees A (suc d) f (split_both A (λ a. estimate A d (below a f))) q k g c m);
    })
    d f (estimate_loss A d f)
  where
    Rule : ℕ → Losses → Triple → Type 0
    Rule d f t = loss A d f t ≡ joint A d f → JointRule A d (minus_all f) t

-- where it is a split of both, its children are estimates
split_below : (A : ℕ) (h : ℕ → Triple) (a : ℕ) → a < A → below a (split_both A h) ≡ h a
split_below A h a l = fun_ext (λ k. fun_ext (λ s. and_yes (ltb a A) (h a k s) (lt→ltb a A l)))

estimate_below : (A d : ℕ) (f : Losses) (a : ℕ) → a < A → ((k : Kind) → In [] (estimate A (suc d) f k) → ⊥) → (NothingShared (estimate A (suc d) f) → ⊥)
    → below a (estimate A (suc d) f) ≡ estimate A d (below a f)
estimate_below A d f = by_choice A Part shared_leaf_lem two_trees (λ d f h k ih a l n m. split_below A (λ b. estimate A d (below b f)) a l) (suc d) f
  where
    Part : ℕ → Losses → Triple → Type 0
    Part zero f t = Unit {0}
    Part (suc d) f t = (a : ℕ) → a < A → ((k : Kind) → In [] (t k) → ⊥) → (NothingShared t → ⊥) → below a t ≡ estimate A d (below a f)

    shared_leaf_lem : (d : ℕ) (f : Losses) → f shared [] ≤ joint A d f → Part d f shared_leaf
    shared_leaf_lem zero f h = tt
    shared_leaf_lem (suc d) f h = λ a l n m. absurd (n shared tt)

    two_trees : (d : ℕ) (f : Losses) → joint A d f < f shared [] → separate A d f ≤ joint A d f → Part d f (separate_trees (λ i. tree A d (f (own i))))
    two_trees zero f h k = tt
    two_trees (suc d) f h k = λ a l n m. absurd (m (λ s x. x))

-- so what stands below a string to which both trees are split is the estimate there
estimate_from : (A D : ℕ) (f : Losses) (s : List ℕ) (d : ℕ) → T (is_context A D s) → length s + d ≡ D → SplitTo s (estimate A D f)
    → from s (estimate A D f) ≡ estimate A d (from s f)
unfolding SplitTo is_context
estimate_from A D f [] d c q g = let e : d ≡ D = omega arith in rw e
estimate_from A zero f (a ∷ s) d c q g = absurd c
estimate_from A (suc D) f (a ∷ s) d c q g =
    let e = estimate_below A D f a (newest_below A D a s c) g.0 g.1 in
    ap {B = Triple} (λ (t : Triple). from s t) e ∙ estimate_from A D (below a f) s d (older_context A D a s c) (omega arith) (subst (SplitTo s) e g.2)

-- .. and a separate tree below a string to which it goes down is the recursion's tree there
own_from : (A D : ℕ) (f : Losses) (i : Sample) → 0 < A → (s : List ℕ) (d : ℕ) → T (is_context A D s) → length s + d ≡ D
    → GoesTo s (tree_of (estimate A D f) i) → NothingShared (from s (estimate A D f)) → from s (estimate A D f) (own i) ≡ tree A d (from s f (own i))
unfolding GoesTo
own_from A D f i p = by_choice A Part shared_leaf_lem (λ D f h k s d c q g n. tree_from A D (f (own i)) s d c q g) both_split D f
  where
    Part : ℕ → Losses → Triple → Type 0
    Part D f t = (s : List ℕ) (d : ℕ) → T (is_context A D s) → length s + d ≡ D → GoesTo s (tree_of t i) → NothingShared (from s t) → from s t (own i) ≡ tree A d (from s f (own i))

    shared_leaf_lem : (D : ℕ) (f : Losses) → f shared [] ≤ joint A D f → Part D f shared_leaf
    shared_leaf_lem D f h [] d c q g n = absurd (n [] tt)
    shared_leaf_lem D f h (a ∷ s) d c q g n = absurd (g.0 tt)

    both_split : (D : ℕ) (f : Losses) → joint A (suc D) f < f shared [] → joint A (suc D) f < separate A (suc D) f
        → ((a : ℕ) → Part D (below a f) (estimate A D (below a f))) → Part (suc D) f (split_both A (λ a. estimate A D (below a f)))
    both_split D f h k ih [] d c q g n =
        absurd
        (omega (
          arith,
          separate_least A (suc D) f (split_both A (λ a. estimate A D (below a f))) (split_admissible A D _ p (λ a l. estimate_admissible A D (below a f) p)) n,
          split_loss A D f (λ a. estimate A D (below a f)),
          sum_cong A (λ a l. estimate_loss A D (below a f)),
          joint_split A D f h k,
        ))
    both_split D f h k ih (a ∷ s) d c q g n =
        let l = newest_below A D a s c in
        let e = split_below A (λ b. estimate A D (below b f)) a l in
        ap {B = Contexts} (λ (t : Triple). from s t (own i)) e
        ∙ ih a s d (older_context A D a s c) (omega arith) (subst (λ (t : Triple). GoesTo s (tree_of t i)) e g.1) (subst (λ (t : Triple). NothingShared (from s t)) e n)

pub estimate_keeps : (A D : ℕ) (f : Losses) → 0 < A → KeepsTies A D (minus_all f) (estimate A D f)
estimate_keeps A D f p = record {
  joint = λ s d c q g. subst (JointRule A d (minus_all (from s f))) (sym (estimate_from A D f s d c q g)) (joint_rule A d (from s f));
  separate = λ i s d c q g n. subst (LeafRule A d (minus_all (from s f) (own i))) (sym (own_from A D f i p s d c q g n)) (leaf_first A d (from s f (own i)));
}

-- THEOREM, of a sitting: with the documents' fits and costs
pub ties_of : (x : Sitting) → 0 < x.symbols → KeepsTies x.symbols x.depth (worths x) (estimate_of x)
ties_of x p =
    subst (λ (w : Worths). KeepsTies x.symbols x.depth w (estimate_of x)) (sym (worths_losses x)) (estimate_keeps x.symbols x.depth (losses x) p)
