-- What the estimate chooses at its root, and that it is admissible and loses what the recursion says. Assumes nothing.
use Prim.Native.Nat.{ℕ, zero, suc, min, ◌≤◌, ◌<◌}
use native.Mathlib.Omega.{arith}
use mathlib.Core.Path.{◌≡◌, refl, ◌∙◌}
use mathlib.Core.Bool.{Bool, true, false, cond, ◌&&◌}
use mathlib.Core.List.{List, []}
use lib.Dec.{T, leb, ltb, lt→ltb}
use Rattle.numbers.specs.Sum.{sum}
use Rattle.numbers.proofs.Orders.{Leb, le, gt, leb_view}
use Rattle.numbers.proofs.Sums.{sum_cong}
use Rattle.contexts.specs.Strings.{under, total}
use Rattle.contexts.specs.Sitting.{first, second}
use Rattle.contexts.proofs.Totalling.{total_none, total_only}
use Rattle.estimate.specs.Trees.{Contexts, Admissible, Triple, shared, own, below, none, root, shared_leaf, separate_trees}
use Rattle.estimate.specs.Recursion.{Losses, best, separate, joint, split, tree, split_both, estimate}
use Rattle.estimate.proofs.Loss.{set_loss, loss_at, loss, loss_sets}
use Rattle.estimate.proofs.Whole.{tree_complete, shared_admissible, separate_admissible, split_admissible}

-- INDUCTION over the estimate: what holds of each of the three choices, under what the recursion compared there, holds of the estimate
module _
    (A : ℕ)
    (P : ℕ → Losses → Triple → Type 0)
    (shared_leaf_lem : (d : ℕ) (f : Losses) → f shared [] ≤ joint A d f → P d f shared_leaf)
    (two_trees : (d : ℕ) (f : Losses) → joint A d f < f shared [] → separate A d f ≤ joint A d f → P d f (separate_trees (λ i. tree A d (f (own i)))))
    (both_split : (d : ℕ) (f : Losses) → joint A (suc d) f < f shared [] → joint A (suc d) f < separate A (suc d) f
    → ((a : ℕ) → P d (below a f) (estimate A d (below a f))) → P (suc d) f (split_both A (λ a. estimate A d (below a f))))
  where
    pub by_choice : (d : ℕ) (f : Losses) → P d f (estimate A d f)
    unfolding estimate joint
    by_choice zero f = go (leb (f shared []) (separate A zero f)) (leb_view (f shared []) (separate A zero f))
      where
        go : (b : Bool) → Leb (f shared []) (separate A zero f) b → P zero f (cond b shared_leaf (separate_trees (λ i. tree A zero (f (own i)))))
        go b (le p) = shared_leaf_lem zero f (omega arith)
        go b (gt p) = two_trees zero f (omega arith) (omega arith)
    by_choice (suc d) f =
        go (leb (f shared []) (min (separate A (suc d) f) part)) (leb_view (f shared []) (min (separate A (suc d) f) part))
        (leb (separate A (suc d) f) part) (leb_view (separate A (suc d) f) part) (λ a. by_choice d (below a f))
      where
        part : ℕ
        part = sum A (λ a. joint A d (below a f))

        go : (b : Bool) → Leb (f shared []) (min (separate A (suc d) f) part) b → (c : Bool) → Leb (separate A (suc d) f) part c
            → ((a : ℕ) → P d (below a f) (estimate A d (below a f)))
            → P (suc d) f (cond b shared_leaf (cond c (separate_trees (λ i. tree A (suc d) (f (own i)))) (split_both A (λ a. estimate A d (below a f)))))
        go b (le p) c v ih = shared_leaf_lem (suc d) f (omega arith)
        go b (gt p) c (le q) ih = two_trees (suc d) f (omega arith) (omega arith)
        go b (gt p) c (gt q) ih = both_split d f (omega arith) (omega arith) ih

-- ---- it is admissible

pub estimate_admissible : (A d : ℕ) (f : Losses) → 0 < A → Admissible A d (estimate A d f)
estimate_admissible A d f p =
    by_choice A (λ d f t. Admissible A d t)
    (λ d f h. shared_admissible A d)
    (λ d f h k. separate_admissible A d (λ i. tree A d (f (own i))) (λ i. tree_complete A d (f (own i)) p))
    (λ d f h k ih. split_admissible A d (λ a. estimate A d (below a f)) p (λ a l. ih a))
    d f

-- ---- what each choice loses

inside : (A d : ℕ) (b : Bool) (f : List ℕ → ℕ) (t : Contexts) → T b → total A d (set_loss f (λ s. b && t s)) ≡ total A d (set_loss f t)
inside A d true f t m = refl
inside A d false f t m = absurd m

pub tree_loss : (A d : ℕ) (f : List ℕ → ℕ) → total A d (set_loss f (tree A d f)) ≡ best A d f
unfolding tree best total
tree_loss A zero f = refl
tree_loss A (suc d) f = go (leb (f []) _) (leb_view (f []) _) (sum_cong A (λ a l. inside A d (ltb a A) (under a f) (tree A d (under a f)) (lt→ltb a A l) ∙ tree_loss A d (under a f)))
  where
    go : (b : Bool) → Leb (f []) (sum A (λ a. best A d (under a f))) b
        → sum A (λ a. total A d (under a (set_loss f (split A (λ a. tree A d (under a f)))))) ≡ sum A (λ a. best A d (under a f))
        → total A (suc d) (set_loss f (cond b root (split A (λ a. tree A d (under a f))))) ≡ min (f []) (sum A (λ a. best A d (under a f)))
    go b (le p) e = omega (arith, total_only A (suc d) (set_loss f root) (λ a s. refl))
    go b (gt p) e = omega arith

pub shared_loss : (A d : ℕ) (f : Losses) → loss A d f shared_leaf ≡ f shared []
shared_loss A d f = omega (arith, total_only A d (loss_at f shared_leaf) (λ a s. refl))

pub separate_loss : (A d : ℕ) (f : Losses) → loss A d f (separate_trees (λ i. tree A d (f (own i)))) ≡ separate A d f
separate_loss A d f =
    omega (
      arith,
      loss_sets A d f (separate_trees (λ i. tree A d (f (own i)))),
      total_none A d {g = set_loss (f shared) none} (λ s. refl),
      tree_loss A d (f (own first)),
      tree_loss A d (f (own second)),
    )

pub split_loss : (A d : ℕ) (f : Losses) (h : ℕ → Triple) → loss A (suc d) f (split_both A h) ≡ sum A (λ a. loss A d (below a f) (h a))
unfolding total
split_loss A d f h = omega (arith, sum_cong A (λ a l. within (ltb a A) (below a f) (h a) (lt→ltb a A l)))
  where
    within : (b : Bool) (f : Losses) (t : Triple) → T b → loss A d f (λ k s. b && t k s) ≡ loss A d f t
    within true f t m = refl
    within false f t m = absurd m

pub joint_le : (A d : ℕ) (f : Losses) → (joint A d f ≤ f shared []) × (joint A d f ≤ separate A d f)
unfolding joint
joint_le A zero f = (omega arith, omega arith)
joint_le A (suc d) f = (omega arith, omega arith)

-- where the recursion is below the first two, it is the sum over the children
pub joint_split : (A d : ℕ) (f : Losses) → joint A (suc d) f < f shared [] → joint A (suc d) f < separate A (suc d) f
    → joint A (suc d) f ≡ sum A (λ a. joint A d (below a f))
unfolding joint
joint_split A d f h k = omega arith

pub estimate_loss : (A d : ℕ) (f : Losses) → loss A d f (estimate A d f) ≡ joint A d f
estimate_loss A d f =
    by_choice A (λ d f t. loss A d f t ≡ joint A d f)
    (λ d f h. omega (arith, shared_loss A d f, joint_le A d f))
    (λ d f h k. omega (arith, separate_loss A d f, joint_le A d f))
    (λ d f h k ih. omega (arith, split_loss A d f (λ a. estimate A d (below a f)), sum_cong A (λ a l. ih a), joint_split A d f h k))
    d f
