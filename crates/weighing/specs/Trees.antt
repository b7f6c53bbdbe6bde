-- The trees that stand at a context with d symbols left: what they lose at least, how many members they have, and which of them is taken.
-- A kind stands for a tree: an own kind for a sample's own, the shared kind for both trees together. Assumes nothing.
use Rattle.std.specs.Prelude.{true, false, cond, not, List, ℕ, zero, suc, ◌+◌, ◌-◌, ◌*◌, min, length, leb}
use Rattle.numbers.specs.Sum.{one, sum}
use Rattle.contexts.specs.Keys.{context_of}
use Rattle.contexts.specs.Sitting.{first, second}
use Rattle.estimate.specs.Trees.{Kind, shared, own}
use Rattle.estimate.specs.Recursion.{Losses}
use Rattle.rows.specs.Members.{Member}
use Rattle.rows.specs.Walk.{older, best_at, separate_at, joint_at, leaf_at, owns, walk}

-- the least loss
unfoldable pub least_at : ℕ → ℕ → Losses → Kind → List ℕ → ℕ
least_at A d f shared s = joint_at A d f s
least_at A d f (own i) s = best_at A d f i s

-- the members
unfoldable pub members_at : ℕ → ℕ → Losses → Kind → List ℕ → List Member
members_at A d f shared s = walk A d f s
members_at A d f (own first) s = owns A d f s true false
members_at A d f (own second) s = owns A d f s false true

-- of a shared leaf, two separate trees and a split of both, by what they lose: 0, 1 or 2 for the first that loses least
unfoldable pub choice : ℕ → ℕ → ℕ → ℕ
choice leaf apart split = cond (leb leaf (min apart split)) 0 (cond (leb apart split) 1 2)

-- the decision at a context: the choice of both trees, 3 more where the first's own tree splits, 6 more where the second's does
unfoldable pub mark_at : ℕ → ℕ → Losses → List ℕ → ℕ
mark_at A zero f s = one (not (leb (f shared s) (separate_at A zero f s)))
mark_at A (suc d) f s =
    choice (f shared s) (separate_at A (suc d) f s) (sum A (λ a. joint_at A d f (older s a)))
    + 3 * one (not (leaf_at A d f first s)) + 6 * one (not (leaf_at A d f second s))

-- .. at the context of a key, in trees of depth D
abbrev pub mark_of : ℕ → ℕ → Losses → ℕ → ℕ
mark_of A D f k = mark_at A (D - length (context_of k)) f (context_of k)
