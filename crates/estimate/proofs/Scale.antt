-- All losses multiplied by one number above 0 leave the estimate as it is, and multiply what any triple loses. Assumes nothing.
use Prim.Native.Nat.{ℕ, zero, suc, ◌*◌, min, ◌<◌}
use native.Mathlib.Nat.{mul-le-mul_left}
use native.Mathlib.Omega.{arith}
use mathlib.Core.Path.{◌≡◌, refl, ap, ap₂, fun_ext, ◌∙◌}
use mathlib.Core.Bool.{Bool, true, false, cond}
use mathlib.Core.List.{List, []}
use lib.Dec.{leb}
use borrow.Author.Tests.{le-leb, lt-leb}
use Rattle.numbers.specs.Sum.{sum}
use Rattle.numbers.proofs.Orders.{Leb, le, gt, leb_view}
use Rattle.numbers.proofs.Tests.{choose₂}
use Rattle.numbers.proofs.Sums.{sum_cong}
use Rattle.contexts.specs.Strings.{under, total}
use Rattle.contexts.specs.Sitting.{first, second}
use Rattle.estimate.specs.Trees.{Contexts, shared, own, Triple, below, separate_trees}
use Rattle.estimate.specs.Recursion.{Losses, best, separate, joint, split, tree, split_both, estimate}
use Rattle.estimate.proofs.Loss.{loss_at, loss}

-- the losses, times c
abbrev pub scaled : ℕ → Losses → Losses
scaled c f k s = c * f k s

module _ (c : ℕ) (above : 0 < c) where
  sum_scale : (n : ℕ) (f : ℕ → ℕ) → sum n (λ a. c * f a) ≡ c * sum n f
  unfolding sum
  sum_scale zero f = omega arith
  sum_scale (suc n) f = omega (arith, sum_scale n f)

  more : (a b : ℕ) → b < a → c * b < c * a
  more a b h = omega (arith, mul-le-mul_left c h)

  leb_scale : (a b : ℕ) → leb (c * a) (c * b) ≡ leb a b
  leb_scale a b = go (leb a b) (leb_view a b)
    where
      go : (t : Bool) → Leb a b t → leb (c * a) (c * b) ≡ t
      go t (le h) = le-leb (c * a) (c * b) (mul-le-mul_left c h)
      go t (gt h) = lt-leb (c * a) (c * b) (more a b h)

  min_scale : (a b : ℕ) → min (c * a) (c * b) ≡ c * min a b
  min_scale a b = go (leb a b) (leb_view a b)
    where
      go : (t : Bool) → Leb a b t → min (c * a) (c * b) ≡ c * min a b
      go t (le h) = let m : min a b ≡ a = omega arith in rw m (omega (arith, mul-le-mul_left c h))
      go t (gt h) = let m : min a b ≡ b = omega arith in rw m (omega (arith, more a b h))

  best_scale : (A d : ℕ) (f : List ℕ → ℕ) → best A d (λ s. c * f s) ≡ c * best A d f
  unfolding best
  best_scale A zero f = refl
  best_scale A (suc d) f =
      ap (min (c * f [])) (sum_cong A (λ a l. best_scale A d (under a f)) ∙ sum_scale A (λ a. best A d (under a f))) ∙ min_scale (f []) _

  separate_scale : (A d : ℕ) (f : Losses) → separate A d (scaled c f) ≡ c * separate A d f
  separate_scale A d f = omega (arith, best_scale A d (f (own first)), best_scale A d (f (own second)))

  parts_scale : (A d : ℕ) (f : Losses) → ((a : ℕ) → joint A d (below a (scaled c f)) ≡ c * joint A d (below a f))
      → sum A (λ a. joint A d (below a (scaled c f))) ≡ c * sum A (λ a. joint A d (below a f))
  parts_scale A d f e = sum_cong A (λ a l. e a) ∙ sum_scale A (λ a. joint A d (below a f))

  joint_scale : (A d : ℕ) (f : Losses) → joint A d (scaled c f) ≡ c * joint A d f
  unfolding joint
  joint_scale A zero f = ap (min (c * f shared [])) (separate_scale A zero f) ∙ min_scale (f shared []) _
  joint_scale A (suc d) f =
      ap (min (c * f shared []))
      (ap₂ min (separate_scale A (suc d) f) (parts_scale A d f (λ a. joint_scale A d (below a f))) ∙ min_scale (separate A (suc d) f) _)
      ∙ min_scale (f shared []) _

  tree_scale : (A d : ℕ) (f : List ℕ → ℕ) → tree A d (λ s. c * f s) ≡ tree A d f
  unfolding tree
  tree_scale A zero f = refl
  tree_scale A (suc d) f =
      rw (sum_cong A (λ a l. best_scale A d (under a f)) ∙ sum_scale A (λ a. best A d (under a f)), leb_scale (f []))
      (choose₂ (λ (t v : Contexts). t ≡ v) (leb (f []) _) _ _ _ _ refl (ap (split A) (fun_ext (λ a. tree_scale A d (under a f)))))

  pub estimate_scale : (A d : ℕ) (f : Losses) → estimate A d (scaled c f) ≡ estimate A d f
  unfolding estimate
  estimate_scale A zero f =
      rw (separate_scale A zero f, leb_scale (f shared []))
      (choose₂ (λ (t v : Triple). t ≡ v) (leb (f shared []) _) _ _ _ _ refl (ap separate_trees (fun_ext (λ i. tree_scale A zero (f (own i))))))
  estimate_scale A (suc d) f =
      rw (separate_scale A (suc d) f, parts_scale A d f (λ a. joint_scale A d (below a f)), min_scale (separate A (suc d) f), leb_scale (f shared []), leb_scale (separate A (suc d) f))
      (choose₂ (λ (t v : Triple). t ≡ v) (leb (f shared []) _) _ _ _ _ refl
      (choose₂ (λ (t v : Triple). t ≡ v) (leb (separate A (suc d) f) _) _ _ _ _
      (ap separate_trees (fun_ext (λ i. tree_scale A (suc d) (f (own i)))))
      (ap (split_both A) (fun_ext (λ a. estimate_scale A d (below a f))))))

  total_scale : (A d : ℕ) (g : List ℕ → ℕ) → total A d (λ s. c * g s) ≡ c * total A d g
  unfolding total
  total_scale A zero g = refl
  total_scale A (suc d) g =
      let e : sum A (λ a. total A d (under a (λ s. c * g s))) ≡ c * sum A (λ a. total A d (under a g)) = sum_cong A (λ a l. total_scale A d (under a g)) ∙ sum_scale A (λ a. total A d (under a g)) in
      omega (arith, e)

  cond_scale : (b : Bool) (n : ℕ) → cond b (c * n) 0 ≡ c * cond b n 0
  cond_scale true n = refl
  cond_scale false n = omega arith

  pub loss_scale : (A d : ℕ) (f : Losses) (t : Triple) → loss A d (scaled c f) t ≡ c * loss A d f t
  loss_scale A d f t = ap (total A d) (fun_ext (λ s. each s)) ∙ total_scale A d (loss_at f t)
    where
      each : (s : List ℕ) → loss_at (scaled c f) t s ≡ c * loss_at f t s
      each s = omega (arith, cond_scale (t shared s) (f shared s), cond_scale (t (own first) s) (f (own first) s), cond_scale (t (own second) s) (f (own second) s))
