-- At a string below which every loss is its own, the trees are those of depth 0; and what the trees lose and hold at most. Assumes nothing.
use Prim.Native.Nat.{ℕ, zero, suc, ◌+◌, ◌*◌, ◌^◌, ◌≤◌, ◌<◌, min}
use mathlib.Core.Path.{◌≡◌, refl, sym, ap, ap₂, ◌∙◌}
use mathlib.Core.Bool.{Bool, true, false, cond, not, and-true, and-false}
use mathlib.Core.List.{List, [], ◌++◌, append-nil}
use native.Mathlib.Omega.{arith}
use native.Mathlib.Nat.{mul-le-mul_right, pow-suc}
use lib.ListN.{length}
use lib.Dec.{leb}
use borrow.Author.Tests.{le-leb, lt-leb}
use Rattle.numbers.specs.Limits.{most_symbols}
use Rattle.numbers.specs.Sum.{one, sum}
use Rattle.numbers.proofs.Tests.{choose}
use Rattle.numbers.proofs.Orders.{Leb, le, gt, leb_view}
use Rattle.numbers.proofs.Sums.{sum_mono, sum_same}
use Rattle.contexts.proofs.KeyOrder.{pow_pos}
use Rattle.contexts.specs.Sitting.{Sample, first, second}
use Rattle.estimate.specs.Trees.{Kind, shared, own, from}
use Rattle.estimate.specs.Recursion.{Losses}
use Rattle.estimate.proofs.Unseen.{Flat, best_flat, joint_flat}
use Rattle.rows.specs.Members.{Member, member, only_if}
use Rattle.rows.specs.Walk.{older, best_at, separate_at, joint_at, leaf_at, owns}
use Rattle.rows.proofs.Values.{best_at_suc, joint_at_zero, joint_at_suc, best_at_le, joint_at_le}
use Rattle.rows.proofs.Walking.{walk_unseen}
use Rattle.weighing.specs.Trees.{least_at, members_at, choice, mark_at}
use Rattle.weighing.proofs.Standing.{gather_empty, owns_none, members_leaf, members_joint_leaf, members_split, members_joint_split, less_below}

module _ (A : ℕ) (f : Losses) (s : List ℕ) (some : 0 < A) (flat : (k : Kind) → Flat (from s f k)) where
  pub least_flat : (d : ℕ) (k : Kind) → least_at A d f k s ≡ least_at A zero f k s
  unfolding least_at
  least_flat d shared = joint_flat A d (from s f) some flat
  least_flat d (own i) = best_flat A d (from s f (own i)) some (flat (own i)) ∙ sym (best_flat A zero (from s f (own i)) some (flat (own i)))

  best_is : (d : ℕ) (i : Sample) → best_at A d f i s ≡ f (own i) s
  best_is d i = best_flat A d (from s f (own i)) some (flat (own i)) ∙ ap (f (own i)) (append-nil s)

  leaf_flat : (d : ℕ) (i : Sample) → leaf_at A d f i s ≡ true
  leaf_flat d i = le-leb (f (own i) s) (sum A (λ a. best_at A d f i (older s a))) (omega (arith, best_at_suc A d f i s, best_is (suc d) i))

  pub owns_flat : (d : ℕ) (m n : Bool) → owns A d f s m n ≡ owns A zero f s m n
  unfolding owns
  owns_flat zero m n = refl
  owns_flat (suc d) m n =
      rw (leaf_flat d first, leaf_flat d second, and-true m, and-true n)
      (ap (λ (l : List Member). only_if m (member (own first) s) (only_if n (member (own second) s) []) ++ l)
      (gather_empty A (λ a. ap₂ (owns A d f (older s a)) (and-false m) (and-false n) ∙ owns_none A d f (older s a)))
      ∙ append-nil (only_if m (member (own first) s) (only_if n (member (own second) s) [])))

  pub members_flat : (d : ℕ) (k : Kind) → members_at A d f k s ≡ members_at A zero f k s
  unfolding members_at
  members_flat d shared = walk_unseen A d f s some flat
  members_flat d (own first) = owns_flat d true false
  members_flat d (own second) = owns_flat d false true

  pub mark_flat : (d : ℕ) → mark_at A d f s ≡ mark_at A zero f s
  unfolding mark_at choice
  mark_flat zero = refl
  mark_flat (suc d) =
      rw (leaf_flat d first, leaf_flat d second)
      (go (leb_view (f shared s) (separate_at A zero f s)) (omega (arith, best_is (suc d) first, best_is (suc d) second, best_is zero first, best_is zero second))
      (sym (joint_at_suc A d f s) ∙ least_shared ∙ joint_zero))
    where
      part : ℕ
      part = sum A (λ a. joint_at A d f (older s a))

      joint_zero : joint_at A zero f s ≡ min (f shared s) (separate_at A zero f s)
      joint_zero = joint_at_zero A f s

      least_shared : joint_at A (suc d) f s ≡ joint_at A zero f s
      least_shared = joint_flat A (suc d) (from s f) some flat

      go : {b : Bool} → Leb (f shared s) (separate_at A zero f s) b → separate_at A (suc d) f s ≡ separate_at A zero f s
          → min (f shared s) (min (separate_at A (suc d) f s) part) ≡ min (f shared s) (separate_at A zero f s)
          → cond (leb (f shared s) (min (separate_at A (suc d) f s) part)) 0 (cond (leb (separate_at A (suc d) f s) part) 1 2) + 3 * 0 + 6 * 0 ≡ one (not b)
      go (le p) e m = rw (le-leb (f shared s) (min (separate_at A (suc d) f s) part) (omega arith))
      go (gt p) e m = rw (lt-leb (f shared s) (min (separate_at A (suc d) f s) part) (omega arith), le-leb (separate_at A (suc d) f s) part (omega arith))

-- ---- bounds

pub least_le : (A d : ℕ) (f : Losses) (k : Kind) (s : List ℕ) → least_at A d f k s ≤ f k s
unfolding least_at
least_le A d f shared s = joint_at_le A d f s
least_le A d f (own i) s = best_at_le A d f i s

-- a sum over at most eight symbols
sum_eight : (A m : ℕ) {g : ℕ → ℕ} → A ≤ most_symbols → ((a : ℕ) → g a ≤ m) → sum A g ≤ most_symbols * m
sum_eight A m few h = omega (arith, sum_mono A {g = λ a. m} (λ a l. h a), sum_same A m, mul-le-mul_right m few)

module _ (A : ℕ) (f : Losses) (few : A ≤ most_symbols) where
  own_few : (d : ℕ) (i : Sample) (s : List ℕ) → length (members_at A d f (own i) s) ≤ 8 ^ d
  own_few zero i s = omega (arith, members_leaf A f s i)
  own_few (suc d) i s =
      let big = pow_pos (suc d) in
      let below = sum_eight A (8 ^ d) few (λ a. own_few d i (older s a)) in
      rw (members_split A d f s i) (choose (λ (z : ℕ). z ≤ 8 ^ suc d) (leb (f (own i) s) (less_below A d f s (own i))) 1 _ big (omega (arith, pow-suc 8 d)))

  pub members_few : (d : ℕ) (k : Kind) (s : List ℕ) → length (members_at A d f k s) ≤ 2 * 8 ^ d
  members_few d (own i) s = omega (arith, own_few d i s)
  members_few zero shared s = rw (members_joint_leaf A f s) (choose (λ (z : ℕ). z ≤ 2) (leb (f shared s) (f (own first) s + f (own second) s)) 1 2 (omega arith) (omega arith))
  members_few (suc d) shared s =
      let big = pow_pos (suc d) in
      let below = sum_eight A (2 * 8 ^ d) few (λ a. members_few d shared (older s a)) in
      let apart = least_at A (suc d) f (own first) s + least_at A (suc d) f (own second) s in
      rw (members_joint_split A d f s)
      (choose (λ (z : ℕ). z ≤ 2 * 8 ^ suc d) (leb (f shared s) (min apart (less_below A d f s shared))) 1 _ (omega arith)
      (choose (λ (z : ℕ). z ≤ 2 * 8 ^ suc d) (leb apart (less_below A d f s shared)) _ _ (omega (arith, own_few (suc d) first s, own_few (suc d) second s)) (omega (arith, pow-suc 8 d))))
