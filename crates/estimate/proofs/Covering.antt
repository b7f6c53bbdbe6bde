-- Over a complete tree, numbers that add up from children to parent add up to the root's. Assumes nothing.
use Prim.Native.Nat.{ℕ, zero, suc, ◌<◌}
use native.Mathlib.Omega.{arith}
use mathlib.Core.Path.{◌≡◌, refl}
use mathlib.Core.Bool.{cond}
use mathlib.Core.List.{List, [], ◌∷◌, ◌++◌}
use lib.ListN.{length}
use Rattle.numbers.specs.Sum.{sum}
use Rattle.numbers.proofs.Tests.{T?, is_false}
use Rattle.numbers.proofs.Sums.{sum_cong}
use Rattle.contexts.specs.Strings.{under, total}
use Rattle.contexts.proofs.Totalling.{total_only}
use Rattle.estimate.specs.Trees.{Contexts, In, Complete, root}
use Rattle.estimate.proofs.Least.{root_of_zero, child}
use Rattle.estimate.proofs.LeafTies.{root_alone}

-- each string of less than d symbols has what its children have together
abbrev pub AddsUp : ℕ → ℕ → (List ℕ → ℕ) → Type 0
AddsUp A d f = (s : List ℕ) → length s < d → sum A (λ b. f (s ++ b ∷ [])) ≡ f s

-- where the root is a member, it is the only one
at_root : (A d : ℕ) (f : List ℕ → ℕ) (t : Contexts) → Complete A d t → In [] t → total A d (λ s. cond (t s) (f s) 0) ≡ f []
at_root A d f t c m = rw (root_alone c m) (total_only A d (λ s. cond (root s) (f s) 0) (λ a s. refl))

-- THEOREM. What the members of a complete tree have together is what the empty string has
pub covers : (A d : ℕ) (f : List ℕ → ℕ) (t : Contexts) → Complete A d t → AddsUp A d f → total A d (λ s. cond (t s) (f s) 0) ≡ f []
unfolding total
covers A zero f t c h = at_root A zero f t c (root_of_zero c)
covers A (suc d) f t c h = elim (T? (t [])) [
  | yes m ↦ at_root A (suc d) f t c m
  | no n ↦
      let each = sum_cong A {g = λ a. f (a ∷ [])} (λ a l. covers A d (under a f) (under a t) (child c n a l) (λ s m. h (a ∷ s) (omega arith))) in
      rw (is_false (t []) n) (omega (arith, each, h [] (omega arith)))
]
