-- The members of the estimate as a program walks the trees: by string, from the root, with the depth d that is left. Assumes nothing.
use Rattle.std.specs.Prelude.{ℕ, zero, suc, ◌+◌, min, Bool, true, cond, not, ◌&&◌, List, [], ◌∷◌, ◌++◌, leb}
use Rattle.numbers.specs.Sum.{sum}
use Rattle.contexts.specs.Sitting.{Sample, first, second}
use Rattle.estimate.specs.Trees.{shared, own, from}
use Rattle.estimate.specs.Recursion.{Losses, best, joint}
use Rattle.rows.specs.Members.{Member, member, only_if, gather}

-- the child of s at the older symbol a
abbrev pub older : List ℕ → ℕ → List ℕ
older s a = s ++ (a ∷ [])

-- the source's V at s: of one sample, of two separate trees, and of both
abbrev pub best_at : ℕ → ℕ → Losses → Sample → List ℕ → ℕ
best_at A d f i s = best A d (from s f (own i))

abbrev pub separate_at : ℕ → ℕ → Losses → List ℕ → ℕ
separate_at A d f s = best_at A d f first s + best_at A d f second s

abbrev pub joint_at : ℕ → ℕ → Losses → List ℕ → ℕ
joint_at A d f s = joint A d (from s f)

-- is the tree of sample i a leaf at s, with d + 1 left?
abbrev pub leaf_at : ℕ → ℕ → Losses → Sample → List ℕ → Bool
leaf_at A d f i s = leb (f (own i) s) (sum A (λ a. best_at A d f i (older s a)))

-- the members of the own trees that still go on at s: m and n say which
unfoldable pub owns : ℕ → ℕ → Losses → List ℕ → Bool → Bool → List Member
owns A zero f s m n = only_if m (member (own first) s) (only_if n (member (own second) s) [])
owns A (suc d) f s m n =
    only_if (m && leaf_at A d f first s) (member (own first) s) (only_if (n && leaf_at A d f second s) (member (own second) s) [])
    ++ gather A (λ a. owns A d f (older s a) (m && not (leaf_at A d f first s)) (n && not (leaf_at A d f second s)))

-- the members of the estimate from s down
unfoldable pub walk : ℕ → ℕ → Losses → List ℕ → List Member
walk A zero f s = cond (leb (f shared s) (separate_at A zero f s)) (member shared s ∷ []) (owns A zero f s true true)
walk A (suc d) f s =
    let split = sum A (λ a. joint_at A d f (older s a)) in
    cond (leb (f shared s) (min (separate_at A (suc d) f s) split))
    (member shared s ∷ [])
    (cond (leb (separate_at A (suc d) f s) split)
    (owns A (suc d) f s true true)
    (gather A (λ a. walk A d f (older s a))))
