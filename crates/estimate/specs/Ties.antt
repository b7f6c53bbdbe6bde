-- "Ties, at each string s from the root: shared leaf first, then two separate trees, then a split of both. Within a separate tree: leaf before
-- split." The rule is told of a triple by its scores, with no mention of how the estimate is worked out. Assumes nothing.
use Rattle.std.specs.Prelude.{ℕ, ◌+◌, ◌≡◌, ◌⊎◌, List, [], ◌∷◌, length, T, ℤ, ◌≤ℤ◌}
use Rattle.contexts.specs.Context.{is_context}
use Rattle.contexts.specs.Strings.{under}
use Rattle.contexts.specs.Sitting.{Sample}
use Rattle.estimate.specs.Trees.{Contexts, In, Complete, Kind, shared, own, Triple, tree_of, root, shared_leaf, separate_trees, below, from}
use Rattle.estimate.specs.Score.{Worths, set_score, score}

abbrev pub NothingShared : Triple → Type 0
NothingShared t = (s : List ℕ) → In s (t shared) → ⊥

-- the rule at one string: d symbols are left below it, and w and t are the worths and the triple as seen from there
pub record JointRule (A d : ℕ) (w : Worths) (t : Triple) : Type 0 where
  -- where a shared leaf scores as much as what stands there, it is what stands there
  pub shared_first : score A d w t ≤ℤ score A d w shared_leaf → t ≡ shared_leaf
  -- where two separate trees score as much, what stands there is a shared leaf or has nothing shared
  pub separate_next : (g : Sample → Contexts) → ((i : Sample) → Complete A d (g i)) → score A d w t ≤ℤ score A d w (separate_trees g)
      → (t ≡ shared_leaf) ⊎ NothingShared t

-- .. and of a separate tree: where a leaf scores as much, it is a leaf
abbrev pub LeafRule : ℕ → ℕ → (List ℕ → ℤ) → Contexts → Type 0
LeafRule A d w t = set_score A d w t ≤ℤ set_score A d w root → t ≡ root

-- both trees are split at each string shorter than s: nothing stands there, and something is shared further down
unfoldable pub SplitTo : List ℕ → Triple → Type 0
SplitTo [] t = Unit {0}
SplitTo (a ∷ s) t = ((k : Kind) → In [] (t k) → ⊥) × (NothingShared t → ⊥) × SplitTo s (below a t)

-- a tree goes down to s: no shorter string is a member
unfoldable pub GoesTo : List ℕ → Contexts → Type 0
GoesTo [] t = Unit {0}
GoesTo (a ∷ s) t = (In [] t → ⊥) × GoesTo s (under a t)

-- the triple t keeps the rule at each string s of at most D symbols that it comes to
pub record KeepsTies (A D : ℕ) (w : Worths) (t : Triple) : Type 0 where
  pub joint : (s : List ℕ) (d : ℕ) → T (is_context A D s) → length s + d ≡ D → SplitTo s t → JointRule A d (from s w) (from s t)
  pub separate : (i : Sample) (s : List ℕ) (d : ℕ) → T (is_context A D s) → length s + d ≡ D → GoesTo s (tree_of t i) → NothingShared (from s t)
      → LeafRule A d (from s w (own i)) (from s t (own i))
