-- Exchanging the two samples exchanges the own kinds of the estimate, and leaves its score: of any losses, so for every weight. Assumes nothing.
use Prim.Native.Nat.{ℕ, zero, suc, ◌+◌, min}
use native.Mathlib.Nat.{add_comm}
use native.Mathlib.Omega.{arith}
use mathlib.Core.Path.{◌≡◌, refl, sym, ap, ap₂, fun_ext, ◌∙◌}
use mathlib.Core.List.{List, []}
use lib.Dec.{leb}
use Rattle.numbers.proofs.Tests.{choose₂}
use Rattle.numbers.proofs.Sums.{sum_cong}
use Rattle.contexts.specs.Sitting.{Sample, first, second, Sitting}
use Rattle.estimate.specs.Trees.{Contexts, Kind, shared, own, Triple, shared_leaf, separate_trees, below}
use Rattle.estimate.specs.Score.{counts, cost, worths, score}
use Rattle.estimate.specs.Recursion.{Losses, spread, losses, separate, joint, split, tree, estimate, estimate_of}
use Rattle.estimate.specs.Exchange.{other, swap}
use Rattle.estimate.proofs.Integers.{minus}
use Rattle.estimate.proofs.Optimal.{score_estimate}

pub other_other : (i : Sample) → other (other i) ≡ i
other_other first = refl
other_other second = refl

pub swap_swap : (k : Kind) → swap (swap k) ≡ k
swap_swap shared = refl
swap_swap (own i) = ap own (other_other i)

-- ---- any losses

abbrev swapped : Losses → Losses
swapped f k = f (swap k)

separate_swap : (A d : ℕ) (f : Losses) → separate A d (swapped f) ≡ separate A d f
separate_swap A d f = omega arith

joint_swap : (A d : ℕ) (f : Losses) → joint A d (swapped f) ≡ joint A d f
unfolding joint
joint_swap A zero f = ap (min (f shared [])) (separate_swap A zero f)
joint_swap A (suc d) f = ap (min (f shared [])) (ap₂ min (separate_swap A (suc d) f) (sum_cong A (λ a l. joint_swap A d (below a f))))

leaf_swap : (k : Kind) → shared_leaf k ≡ shared_leaf (swap k)
leaf_swap shared = refl
leaf_swap (own i) = refl

trees_swap : (g : Sample → Contexts) (k : Kind) → separate_trees (λ i. g (other i)) k ≡ separate_trees g (swap k)
trees_swap g shared = refl
trees_swap g (own i) = refl

-- THEOREM. No tie rule looks at a sample's number
pub estimate_swap : (A d : ℕ) (f : Losses) (k : Kind) → estimate A d (swapped f) k ≡ estimate A d f (swap k)
unfolding estimate
estimate_swap A zero f k =
    rw (separate_swap A zero f)
    (choose₂ (λ (t v : Triple). t k ≡ v (swap k)) (leb (f shared []) (separate A zero f)) _ _ _ _ (leaf_swap k) (trees_swap (λ i. tree A zero (f (own i))) k))
estimate_swap A (suc d) f k =
    rw (separate_swap A (suc d) f, sum_cong A {f = λ a. joint A d (below a (swapped f))} (λ a l. joint_swap A d (below a f)))
    (choose₂ (λ (t v : Triple). t k ≡ v (swap k)) (leb (f shared []) _) _ _ _ _ (leaf_swap k)
    (choose₂ (λ (t v : Triple). t k ≡ v (swap k)) (leb (separate A (suc d) f) _) _ _ _ _ (trees_swap (λ i. tree A (suc d) (f (own i))) k)
    (ap (split A) (fun_ext (λ a. estimate_swap A d (below a f) k)))))

-- ---- a sitting

abbrev pub exchanged : Sitting → Sitting
exchanged x = record { symbols = x.symbols; depth = x.depth; weight = x.weight; size = λ i. x.size (other i); count = λ i. x.count (other i) }

module _ (x : Sitting) where
  pub counts_exchanged : (k : Kind) (s : List ℕ) → counts (exchanged x) k s ≡ counts x (swap k) s
  counts_exchanged shared s = fun_ext (λ a. add_comm (x.count second s a) (x.count first s a))
  counts_exchanged (own i) s = refl

  losses_exchanged : losses (exchanged x) ≡ swapped (losses x)
  losses_exchanged = fun_ext (λ k. fun_ext (λ s. go k s))
    where
      go : (k : Kind) (s : List ℕ) → losses (exchanged x) k s ≡ losses x (swap k) s
      go shared s =
          ap₂ (λ (n : ℕ) (c : ℕ → ℕ). cost x.weight x.symbols n + spread x.symbols c) (add_comm (x.size second) (x.size first)) (counts_exchanged shared s)
      go (own i) s = refl

  -- THEOREM. The exchanged sitting's estimate has the same contexts with the own kinds exchanged, and the same score
  pub estimate_exchanged : (k : Kind) → estimate_of (exchanged x) k ≡ estimate_of x (swap k)
  estimate_exchanged k = ap (λ (f : Losses). estimate x.symbols x.depth f k) losses_exchanged ∙ estimate_swap x.symbols x.depth (losses x) k

  pub score_exchanged : score x.symbols x.depth (worths (exchanged x)) (estimate_of (exchanged x)) ≡ score x.symbols x.depth (worths x) (estimate_of x)
  score_exchanged =
      score_estimate (exchanged x)
      ∙ ap minus (ap (joint x.symbols x.depth) losses_exchanged ∙ joint_swap x.symbols x.depth (losses x))
      ∙ sym (score_estimate x)
