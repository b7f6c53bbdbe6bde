-- One sample's tree: "leaf before split" is kept by the recursion's tree, and makes the best tree unique. Assumes nothing.
use Prim.Native.Nat.{ℕ, zero, suc, ◌+◌, ◌≤◌, ◌<◌}
use native.Mathlib.Omega.{arith}
use mathlib.Core.Path.{◌≡◌, refl, ap, subst, fun_ext, ◌∙◌}
use mathlib.Core.Bool.{Bool, true, false, cond, ◌&&◌}
use mathlib.Core.List.{List, [], ◌∷◌, ◌++◌}
use lib.ListN.{length}
use lib.Dec.{T, leb, ltb, lt→ltb}
use borrow.Author.Tests.{le-leb}
use Rattle.numbers.specs.Sum.{sum}
use Rattle.numbers.proofs.Tests.{is_true, is_false, and_yes}
use Rattle.numbers.proofs.Orders.{Leb, le, gt, leb_view}
use Rattle.numbers.proofs.Sums.{sum_tight}
use Rattle.contexts.specs.Context.{is_context}
use Rattle.contexts.specs.Strings.{under, total}
use Rattle.contexts.proofs.Strings.{newest_below, older_context, context_cons}
use Rattle.contexts.proofs.Totalling.{total_only}
use Rattle.estimate.specs.Trees.{Contexts, In, Complete, root}
use Rattle.estimate.specs.Ties.{LeafRule, GoesTo}
use Rattle.estimate.specs.Recursion.{best, split, tree}
use Rattle.estimate.proofs.Integers.{minus}
use Rattle.estimate.proofs.Loss.{set_loss, more_set_score, less_set_loss}
use Rattle.estimate.proofs.Least.{counted_yes, root_of_zero, child, tree_least}
use Rattle.estimate.proofs.Choice.{tree_loss}

-- the rule at each string that the tree t goes down to, where f are the losses
abbrev pub LeafRules : ℕ → ℕ → (List ℕ → ℕ) → Contexts → Type 0
LeafRules A D f t =
    (s : List ℕ) (d : ℕ) → T (is_context A D s) → length s + d ≡ D → GoesTo s t → LeafRule A d (λ u. minus (f (s ++ u))) (λ u. t (s ++ u))

-- ---- trees by their members

-- a complete tree with the empty string for a member has no other
pub root_alone : {A d : ℕ} {t : Contexts} → Complete A d t → In [] t → t ≡ root
root_alone {A} {d} {t} c m = fun_ext go
  where
    go : (s : List ℕ) → t s ≡ root s
    go [] = is_true (t []) m
    go (a ∷ s) = is_false (t (a ∷ s)) (λ n. let e = c.apart [] (a ∷ s) m n in let z : ◌≡◌ {A = ℕ} 0 1 = cc in omega arith)

-- where the empty string is no member, a set is put together from those of its children
pub split_same : (A : ℕ) (t : Contexts) (g : ℕ → Contexts) → (In [] t → ⊥) → ((a : ℕ) (s : List ℕ) → In (a ∷ s) t → a < A) → ((a : ℕ) → a < A → under a t ≡ g a)
    → t ≡ split A g
split_same A t g n low e = fun_ext go
  where
    child_at : (a : ℕ) (s : List ℕ) (b : Bool) → Leb (suc a) A b → t (a ∷ s) ≡ (b && g a s)
    child_at a s b (le p) = ap (λ (u : Contexts). u s) (e a p)
    child_at a s b (gt p) = is_false (t (a ∷ s)) (λ m. let l = low a s m in omega arith)

    go : (s : List ℕ) → t s ≡ split A g s
    go [] = is_false (t []) n
    go (a ∷ s) = child_at a s (ltb a A) (leb_view (suc a) A)

-- ---- the recursion's tree keeps the rule

pub leaf_first : (A d : ℕ) (f : List ℕ → ℕ) → LeafRule A d (λ u. minus (f u)) (tree A d f)
unfolding tree best
leaf_first A zero f h = refl
leaf_first A (suc d) f h =
    let l = less_set_loss A (suc d) f (tree A (suc d) f) root h in
    rw (le-leb (f []) (sum A (λ a. best A d (under a f))) (omega (arith, tree_loss A (suc d) f, total_only A (suc d) (set_loss f root) (λ a s. refl))))

-- where it is no leaf, its children are trees of the recursion
tree_under : (A d : ℕ) (f : List ℕ → ℕ) (a : ℕ) → a < A → (In [] (tree A (suc d) f) → ⊥) → under a (tree A (suc d) f) ≡ tree A d (under a f)
unfolding tree
tree_under A d f a l = go (leb (f []) (sum A (λ a. best A d (under a f))))
  where
    go : (b : Bool) → (In [] (cond b root (split A (λ a. tree A d (under a f)))) → ⊥) → under a (cond b root (split A (λ a. tree A d (under a f)))) ≡ tree A d (under a f)
    go true n = absurd (n tt)
    go false n = fun_ext (λ s. and_yes (ltb a A) (tree A d (under a f) s) (lt→ltb a A l))

pub tree_from : (A D : ℕ) (f : List ℕ → ℕ) (s : List ℕ) (d : ℕ) → T (is_context A D s) → length s + d ≡ D → GoesTo s (tree A D f)
    → (λ u. tree A D f (s ++ u)) ≡ tree A d (λ u. f (s ++ u))
unfolding GoesTo is_context
tree_from A D f [] d c q g = let e : d ≡ D = omega arith in rw e
tree_from A zero f (a ∷ s) d c q g = absurd c
tree_from A (suc D) f (a ∷ s) d c q g =
    let e = tree_under A D f a (newest_below A D a s c) g.0 in
    ap {B = Contexts} (λ (t : Contexts) (u : List ℕ). t (s ++ u)) e
    ∙ tree_from A D (under a f) s d (older_context A D a s c) (omega arith) (subst (GoesTo s) e g.1)

-- ---- and is the only best tree that does

pub tree_unique : (A D : ℕ) (f : List ℕ → ℕ) (t : Contexts) → Complete A D t → total A D (set_loss f t) ≤ best A D f → LeafRules A D f t → t ≡ tree A D f
unfolding tree best total GoesTo is_context
tree_unique A zero f t c l r = root_alone c (root_of_zero c)
tree_unique A (suc d) f t c l r = go (leb (f []) part) (leb_view (f []) part) (λ n a h. tree_unique A d (under a f) (under a t) (child c n a h))
  where
    part : ℕ
    part = sum A (λ a. best A d (under a f))

    go : (b : Bool) → Leb (f []) part b
        → ((In [] t → ⊥) → (a : ℕ) → a < A → total A d (set_loss (under a f) (under a t)) ≤ best A d (under a f) → LeafRules A d (under a f) (under a t) → under a t ≡ tree A d (under a f))
        → t ≡ cond b root (split A (λ a. tree A d (under a f)))
    go b (le p) ih =
        r [] (suc d) tt (omega arith) tt
        (more_set_score A (suc d) f t root (omega (arith, total_only A (suc d) (set_loss f root) (λ a s. refl), tree_least A (suc d) f t c)))
    go b (gt p) ih = split_same A t (λ a. tree A d (under a f)) inner (λ a s m. newest_below A d a s (c.fits (a ∷ s) m)) children
      where
        inner : In [] t → ⊥
        inner m = omega (arith, counted_yes (t []) (f []) m)

        tight : (a : ℕ) → a < A → total A d (set_loss (under a f) (under a t)) ≤ best A d (under a f)
        tight = sum_tight A {f = λ a. best A d (under a f)} (λ a h. tree_least A d (under a f) (under a t) (child c inner a h)) (omega arith)

        children : (a : ℕ) → a < A → under a t ≡ tree A d (under a f)
        children a h = ih inner a h (tight a h) (λ s e cx q g. r (a ∷ s) e (context_cons A d a s h cx) (omega arith) (inner, g))
