-- The least losses, told by the string at which they are taken. Assumes nothing.
use Prim.Native.Nat.{ℕ, zero, suc, min, ◌≤◌}
use native.Mathlib.Omega.{arith}
use mathlib.Core.Path.{◌≡◌, sym, ap, ap₂, fun_ext}
use mathlib.Core.List.{List, [], ◌∷◌, append-nil, append_assoc}
use Rattle.numbers.specs.Sum.{sum}
use Rattle.numbers.proofs.Sums.{sum_cong}
use Rattle.contexts.specs.Strings.{under}
use Rattle.contexts.specs.Sitting.{Sample}
use Rattle.estimate.specs.Trees.{Kind, shared, own, below, from}
use Rattle.estimate.specs.Recursion.{Losses, best, joint}
use Rattle.rows.specs.Walk.{older, best_at, separate_at, joint_at}

pub from_child : (f : Losses) (s : List ℕ) (a : ℕ) → below a (from s f) ≡ from (older s a) f
from_child f s a = fun_ext (λ k. fun_ext (λ u. ap (f k) (sym (append_assoc s (a ∷ []) u))))

pub from_here : (f : Losses) (s : List ℕ) (k : Kind) → from s f k [] ≡ f k s
from_here f s k = ap (f k) (append-nil s)

pub best_at_zero : (A : ℕ) (f : Losses) (i : Sample) (s : List ℕ) → best_at A zero f i s ≡ f (own i) s
unfolding best
best_at_zero A f i s = from_here f s (own i)

pub children_best : (A d : ℕ) (f : Losses) (i : Sample) (s : List ℕ) → sum A (λ a. best A d (under a (from s f (own i)))) ≡ sum A (λ a. best_at A d f i (older s a))
children_best A d f i s = sum_cong A (λ a l. ap (λ (g : Losses). best A d (g (own i))) (from_child f s a))

pub children_joint : (A d : ℕ) (f : Losses) (s : List ℕ) → sum A (λ a. joint A d (below a (from s f))) ≡ sum A (λ a. joint_at A d f (older s a))
children_joint A d f s = sum_cong A (λ a l. ap (joint A d) (from_child f s a))

pub best_at_suc : (A d : ℕ) (f : Losses) (i : Sample) (s : List ℕ) → best_at A (suc d) f i s ≡ min (f (own i) s) (sum A (λ a. best_at A d f i (older s a)))
unfolding best
best_at_suc A d f i s = ap₂ min (from_here f s (own i)) (children_best A d f i s)

pub joint_at_zero : (A : ℕ) (f : Losses) (s : List ℕ) → joint_at A zero f s ≡ min (f shared s) (separate_at A zero f s)
unfolding joint
joint_at_zero A f s = ap (λ (n : ℕ). min n (separate_at A zero f s)) (from_here f s shared)

pub joint_at_suc : (A d : ℕ) (f : Losses) (s : List ℕ)
    → joint_at A (suc d) f s ≡ min (f shared s) (min (separate_at A (suc d) f s) (sum A (λ a. joint_at A d f (older s a))))
unfolding joint
joint_at_suc A d f s = ap₂ min (from_here f s shared) (ap (min (separate_at A (suc d) f s)) (children_joint A d f s))

-- a value is at most the loss of the leaf
pub best_at_le : (A d : ℕ) (f : Losses) (i : Sample) (s : List ℕ) → best_at A d f i s ≤ f (own i) s
best_at_le A zero f i s = omega (arith, best_at_zero A f i s)
best_at_le A (suc d) f i s = omega (arith, best_at_suc A d f i s)

pub joint_at_le : (A d : ℕ) (f : Losses) (s : List ℕ) → joint_at A d f s ≤ f shared s
joint_at_le A zero f s = omega (arith, joint_at_zero A f s)
joint_at_le A (suc d) f s = omega (arith, joint_at_suc A d f s)
