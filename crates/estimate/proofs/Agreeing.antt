-- The estimate depends on the sitting's own contexts alone: two sittings that agree on them have one estimate, and one score. Assumes nothing.
use Prim.Native.Nat.{ℕ, zero, suc, ◌+◌, min, ◌<◌}
use mathlib.Core.Path.{◌≡◌, refl, sym, ap, ap₂, fun_ext, ◌∙◌}
use mathlib.Core.Bool.{Bool, cond, ◌&&◌}
use mathlib.Core.List.{List, [], ◌∷◌}
use lib.Dec.{T, leb, ltb}
use Rattle.numbers.specs.Sum.{sum}
use Rattle.numbers.proofs.Orders.{Leb, le, gt, leb_view}
use Rattle.numbers.proofs.Sums.{sum_cong}
use Rattle.contexts.specs.Context.{is_context}
use Rattle.contexts.specs.Strings.{under}
use Rattle.contexts.specs.Sitting.{Sample, first, second, Sitting}
use Rattle.contexts.proofs.Strings.{context_cons}
use Rattle.estimate.specs.Trees.{Contexts, Kind, shared, own, Triple, shared_leaf, separate_trees, root, below}
use Rattle.estimate.specs.Score.{counts, cost, worths, score}
use Rattle.estimate.specs.Recursion.{Losses, losses, best, separate, joint, split, split_both, tree, estimate, estimate_of}
use Rattle.estimate.proofs.Integers.{minus}
use Rattle.estimate.proofs.Spreads.{spread_cong}
use Rattle.estimate.proofs.Tables.{kind_cong, size_cong}
use Rattle.estimate.proofs.Optimal.{score_estimate}

-- f and g are equal at the contexts of at most d symbols below A
abbrev Alike : ℕ → ℕ → (List ℕ → ℕ) → (List ℕ → ℕ) → Type 0
Alike A d f g = (s : List ℕ) → T (is_context A d s) → f s ≡ g s

at_root : (A d : ℕ) (f g : List ℕ → ℕ) → Alike A d f g → f [] ≡ g []
unfolding is_context
at_root A d f g e = e [] tt

at_child : (A d : ℕ) (f g : List ℕ → ℕ) → Alike A (suc d) f g → (a : ℕ) → a < A → Alike A d (under a f) (under a g)
at_child A d f g e a l s c = e (a ∷ s) (context_cons A d a s l c)

-- ---- one sample

best_alike : (A d : ℕ) (f g : List ℕ → ℕ) → Alike A d f g → best A d f ≡ best A d g
unfolding best
best_alike A zero f g e = at_root A zero f g e
best_alike A (suc d) f g e = ap₂ min (at_root A (suc d) f g e) (sum_cong A (λ a l. best_alike A d (under a f) (under a g) (at_child A d f g e a l)))

-- sets put together from equal children are equal
split_alike : (A : ℕ) (g h : ℕ → Contexts) → ((a : ℕ) → a < A → g a ≡ h a) → split A g ≡ split A h
split_alike A g h e = fun_ext go
  where
    child : (a : ℕ) (s : List ℕ) (b : Bool) → Leb (suc a) A b → (b && g a s) ≡ (b && h a s)
    child a s b (le p) = ap (λ (t : Contexts). t s) (e a p)
    child a s b (gt p) = refl

    go : (s : List ℕ) → split A g s ≡ split A h s
    go [] = refl
    go (a ∷ s) = child a s (ltb a A) (leb_view (suc a) A)

tree_alike : (A d : ℕ) (f g : List ℕ → ℕ) → Alike A d f g → tree A d f ≡ tree A d g
unfolding tree
tree_alike A zero f g e = refl
tree_alike A (suc d) f g e =
    ap₂ (λ (b : Bool) (t : Contexts). cond b root t)
    (ap₂ leb (at_root A (suc d) f g e) (sum_cong A (λ a l. best_alike A d (under a f) (under a g) (at_child A d f g e a l))))
    (split_alike A (λ a. tree A d (under a f)) (λ a. tree A d (under a g)) (λ a l. tree_alike A d (under a f) (under a g) (at_child A d f g e a l)))

-- ---- both

abbrev AllAlike : ℕ → ℕ → Losses → Losses → Type 0
AllAlike A d f g = (k : Kind) → Alike A d (f k) (g k)

separate_alike : (A d : ℕ) (f g : Losses) → AllAlike A d f g → separate A d f ≡ separate A d g
separate_alike A d f g e = ap₂ ◌+◌ (best_alike A d (f (own first)) (g (own first)) (e (own first))) (best_alike A d (f (own second)) (g (own second)) (e (own second)))

trees_alike : (A d : ℕ) (f g : Losses) → AllAlike A d f g → separate_trees (λ i. tree A d (f (own i))) ≡ separate_trees (λ i. tree A d (g (own i)))
trees_alike A d f g e = ap separate_trees (fun_ext (λ i. tree_alike A d (f (own i)) (g (own i)) (e (own i))))

pub joint_alike : (A d : ℕ) (f g : Losses) → AllAlike A d f g → joint A d f ≡ joint A d g
unfolding joint
joint_alike A zero f g e = ap₂ min (at_root A zero (f shared) (g shared) (e shared)) (separate_alike A zero f g e)
joint_alike A (suc d) f g e =
    ap₂ min (at_root A (suc d) (f shared) (g shared) (e shared))
    (ap₂ min (separate_alike A (suc d) f g e) (sum_cong A (λ a l. joint_alike A d (below a f) (below a g) (λ k. at_child A d (f k) (g k) (e k) a l))))

pub estimate_alike : (A d : ℕ) (f g : Losses) → AllAlike A d f g → estimate A d f ≡ estimate A d g
unfolding estimate
estimate_alike A zero f g e =
    ap₂ (λ (b : Bool) (t : Triple). cond b shared_leaf t) (ap₂ leb (at_root A zero (f shared) (g shared) (e shared)) (separate_alike A zero f g e)) (trees_alike A zero f g e)
estimate_alike A (suc d) f g e = go (λ a l. estimate_alike A d (below a f) (below a g) (child a l))
  where
    child : (a : ℕ) → a < A → AllAlike A d (below a f) (below a g)
    child a l k = at_child A d (f k) (g k) (e k) a l

    parts : sum A (λ a. joint A d (below a f)) ≡ sum A (λ a. joint A d (below a g))
    parts = sum_cong A (λ a l. joint_alike A d (below a f) (below a g) (child a l))

    go : ((a : ℕ) → a < A → estimate A d (below a f) ≡ estimate A d (below a g)) → estimate A (suc d) f ≡ estimate A (suc d) g
    go children =
        ap₂ (λ (b : Bool) (t : Triple). cond b shared_leaf t)
        (ap₂ leb (at_root A (suc d) (f shared) (g shared) (e shared)) (ap₂ min (separate_alike A (suc d) f g e) parts))
        (ap₂ (λ (b : Bool) (t : Triple). cond b t (split_both A (λ a. estimate A d (below a f)))) (ap₂ leb (separate_alike A (suc d) f g e) parts) (trees_alike A (suc d) f g e)
        ∙ ap (λ (t : Triple). cond (leb (separate A (suc d) g) (sum A (λ a. joint A d (below a g)))) (separate_trees (λ i. tree A (suc d) (g (own i)))) t)
        (fun_ext (λ k. split_alike A (λ a. estimate A d (below a f) k) (λ a. estimate A d (below a g) k) (λ a l. ap (λ (t : Triple). t k) (children a l)))))

-- ---- two sittings

module _ (A D weight : ℕ) (n m : Sample → ℕ) (c e : Sample → List ℕ → ℕ → ℕ) (sizes : (i : Sample) → n i ≡ m i)
    (same : (i : Sample) (s : List ℕ) (a : ℕ) → T (is_context A D s) → c i s a ≡ e i s a) where
  abbrev x : Sitting
  x = record { symbols = A; depth = D; weight = weight; size = n; count = c }

  abbrev y : Sitting
  y = record { symbols = A; depth = D; weight = weight; size = m; count = e }

  losses_alike : (k : Kind) (s : List ℕ) → T (is_context A D s) → losses x k s ≡ losses y k s
  losses_alike k s h =
      ap₂ ◌+◌ (ap (cost weight A) (size_cong x y k sizes)) (spread_cong A {c = counts x k s} {e = counts y k s} (λ a l. kind_cong k {g = λ i. c i s a} {h = λ i. e i s a} (λ i. same i s a h)))

  -- THEOREM. Two sittings of one A, D and weight that agree on lengths and on the counts of every context have one estimate, and one score
  pub same_estimate : estimate_of x ≡ estimate_of y
  same_estimate = estimate_alike A D (losses x) (losses y) losses_alike

  pub same_score : score A D (worths x) (estimate_of x) ≡ score A D (worths y) (estimate_of y)
  same_score = score_estimate x ∙ ap minus (joint_alike A D (losses x) (losses y) losses_alike) ∙ sym (score_estimate y)
