-- Where the losses below a string are all those of the string itself (an unseen context: all its fits are 0, and so are those of the contexts
-- below it), the estimate does not go below it.
-- Assumes nothing.
use Prim.Native.Nat.{ℕ, zero, suc, ◌+◌, min, ◌≤◌, ◌<◌}
use native.Mathlib.Nat.{mul-le-mul_right}
use native.Mathlib.Omega.{arith}
use mathlib.Core.Path.{◌≡◌, refl, sym, ap, ap₂, fun_ext, ◌∙◌}
use mathlib.Core.Bool.{Bool, cond}
use mathlib.Core.List.{List, [], ◌∷◌, ◌++◌}
use lib.Dec.{leb}
use borrow.Author.Tests.{le-leb, lt-leb}
use Rattle.numbers.specs.Sum.{sum}
use Rattle.numbers.proofs.Orders.{Leb, le, gt, leb_view}
use Rattle.numbers.proofs.Sums.{sum_same, sum_cong}
use Rattle.contexts.specs.Strings.{under}
use Rattle.contexts.specs.Sitting.{first, second, Sitting}
use Rattle.estimate.specs.Trees.{Kind, shared, own, root, shared_leaf, separate_trees, below, from}
use Rattle.estimate.specs.Score.{counts, size_of, cost}
use Rattle.estimate.specs.Recursion.{Losses, losses, best, separate, joint, tree, estimate}
use Rattle.estimate.proofs.Loss.{unseen_spread}

-- every string has the loss of the empty one
abbrev pub Flat : (List ℕ → ℕ) → Type 0
Flat f = (s : List ℕ) → f s ≡ f []

-- a sum of n > 0 numbers, each c, is at least c
sum_flat : (n c : ℕ) {g : ℕ → ℕ} → 0 < n → ((a : ℕ) → g a ≡ c) → c ≤ sum n g
sum_flat n c p e = omega (arith, sum_same n c, mul-le-mul_right c p, sum_cong n {f = λ a. c} (λ a l. sym (e a)))

pub best_flat : (A d : ℕ) (f : List ℕ → ℕ) → 0 < A → Flat f → best A d f ≡ f []
unfolding best
best_flat A zero f p e = refl
best_flat A (suc d) f p e = omega (arith, sum_flat A (f []) p (λ a. best_flat A d (under a f) p (λ s. e (a ∷ s) ∙ sym (e (a ∷ []))) ∙ e (a ∷ [])))

pub tree_flat : (A d : ℕ) (f : List ℕ → ℕ) → 0 < A → Flat f → tree A d f ≡ root
unfolding tree
tree_flat A zero f p e = refl
tree_flat A (suc d) f p e =
    rw (le-leb (f []) _ (sum_flat A (f []) p (λ a. best_flat A d (under a f) p (λ s. e (a ∷ s) ∙ sym (e (a ∷ []))) ∙ e (a ∷ []))))

-- what is flat is flat as seen from a child, and has the same loss there
below_flat : (A d : ℕ) (f : Losses) → ((k : Kind) → Flat (f k)) → ((a : ℕ) → ((k : Kind) → Flat (below a f k)) → joint A d (below a f) ≡ joint A zero (below a f))
    → (a : ℕ) → joint A d (below a f) ≡ joint A zero f
unfolding joint best
below_flat A d f e ih a =
    ih a (λ k s. e k (a ∷ s) ∙ sym (e k (a ∷ []))) ∙ ap₂ min (e shared (a ∷ [])) (ap₂ ◌+◌ (e (own first) (a ∷ [])) (e (own second) (a ∷ [])))

-- the least loss, and the estimate, are those of depth 0
pub joint_flat : (A d : ℕ) (f : Losses) → 0 < A → ((k : Kind) → Flat (f k)) → joint A d f ≡ joint A zero f
unfolding joint best
joint_flat A zero f p e = refl
joint_flat A (suc d) f p e =
    omega (
      arith,
      best_flat A (suc d) (f (own first)) p (e (own first)),
      best_flat A (suc d) (f (own second)) p (e (own second)),
      sum_flat A (joint A zero f) p (below_flat A d f e (λ a. joint_flat A d (below a f) p)),
    )

pub unseen : (A d : ℕ) (f : Losses) → 0 < A → ((k : Kind) → Flat (f k)) → estimate A d f ≡ estimate A zero f
unfolding estimate tree best joint
unseen A zero f p e = refl
unseen A (suc d) f p e = go (leb (f shared []) _) (leb_view (f shared []) (f (own first) [] + f (own second) []))
  where
    part : ℕ
    part = sum A (λ a. joint A d (below a f))

    enough : joint A zero f ≤ part
    enough = sum_flat A (joint A zero f) p (below_flat A d f e (λ a. joint_flat A d (below a f) p))

    one : best A (suc d) (f (own first)) ≡ f (own first) []
    one = best_flat A (suc d) (f (own first)) p (e (own first))

    two : best A (suc d) (f (own second)) ≡ f (own second) []
    two = best_flat A (suc d) (f (own second)) p (e (own second))

    go : (b : Bool) → Leb (f shared []) (f (own first) [] + f (own second) []) b → estimate A (suc d) f ≡ cond b shared_leaf (separate_trees (λ i. root))
    go b (le q) = rw (le-leb (f shared []) (min (separate A (suc d) f) part) (omega (arith, enough, one, two)))
    go b (gt q) =
        rw (lt-leb (f shared []) (min (separate A (suc d) f) part) (omega (arith, enough, one, two)), le-leb (separate A (suc d) f) part (omega (arith, enough, one, two)))
        (ap separate_trees (fun_ext (λ i. tree_flat A (suc d) (f (own i)) p (e (own i)))))

-- ---- an unseen context

pub unseen_losses : (x : Sitting) (k : Kind) (s : List ℕ) → ((a : ℕ) → counts x k s a ≡ 0) → losses x k s ≡ cost x.weight x.symbols (size_of x k)
unseen_losses x k s e = omega (arith, unseen_spread x.symbols (counts x k s) e)

-- a string below which nothing is counted is flat, so the estimate does not go below it
pub unseen_flat : (x : Sitting) (k : Kind) (s : List ℕ) → ((u : List ℕ) (a : ℕ) → counts x k (s ++ u) a ≡ 0) → Flat (from s (losses x) k)
unseen_flat x k s e u = unseen_losses x k (s ++ u) (e u) ∙ sym (unseen_losses x k (s ++ []) (e []))
