-- Trees and triples of contexts, as document 01 ("Counts and score") and section 2 of the source have them.
-- A context is a list, most recent symbol first: "s is a suffix of s u" there is "s begins s ++ u" here, and the children of s are the
-- s ++ (a ∷ []), one for each symbol a. Assumes nothing.
use Rattle.std.specs.Prelude.{ℕ, ◌<◌, ◌≡◌, Bool, true, false, ◌||◌, List, [], ◌∷◌, ◌++◌, T}
use Rattle.contexts.specs.Context.{is_context}
use Rattle.contexts.specs.Strings.{under}
use Rattle.contexts.specs.Sitting.{Sample}

-- a set of contexts is its test: it has no order and holds nothing twice
abbrev pub Contexts : Type 0
Contexts = List ℕ → Bool

-- the context s is a member of the set t
abbrev pub In : List ℕ → Contexts → Type 0
In s t = T (t s)

-- a complete tree over the symbols below A, of depth at most D
pub record Complete (A D : ℕ) (t : Contexts) : Type 0 where
  -- every member is a string of at most D symbols of the alphabet
  pub fits : (s : List ℕ) → In s t → T (is_context A D s)
  -- "has at least one member"
  pub some : (s : List ℕ) × In s t
  -- "no member is a suffix of another"
  pub apart : (s u : List ℕ) → In s t → In (s ++ u) t → u ≡ []
  -- "every inner node has all A children": where a member goes on from s by a, some member goes on from s by each symbol b
  pub full : (s : List ℕ) (a : ℕ) (u : List ℕ) → In (s ++ (a ∷ u)) t → (b : ℕ) → b < A → (v : List ℕ) × In (s ++ (b ∷ v)) t

-- of what kind a context of a triple is: shared by both samples, or a sample's own
pub data Kind : Type 0 where
  shared : Kind
  own : Sample → Kind

-- "A triple (shared, first's own, second's own)"
abbrev pub Triple : Type 0
Triple = Kind → Contexts

-- a sample's whole tree: the shared contexts with its own
abbrev pub tree_of : Triple → Sample → Contexts
tree_of t i s = t shared s || t (own i) s

-- "admissible when shared with first's own is a complete tree, shared with second's own is one too, and the shared set meets neither own set"
pub record Admissible (A D : ℕ) (t : Triple) : Type 0 where
  pub complete : (i : Sample) → Complete A D (tree_of t i)
  pub disjoint : (i : Sample) (s : List ℕ) → In s (t shared) → In s (t (own i)) → ⊥

-- the empty set, and the set that holds the empty string alone
abbrev pub none : Contexts
none s = false

abbrev pub root : Contexts
root [] = true
root (a ∷ s) = false

-- a shared leaf, and two separate trees
abbrev pub shared_leaf : Triple
shared_leaf shared = root
shared_leaf (own i) = none

abbrev pub separate_trees : (Sample → Contexts) → Triple
separate_trees g shared = none
separate_trees g (own i) = g i

-- what a triple, or any function of kinds and strings, is as seen from the child at a, and from the string s
abbrev pub below {ℓ} : {B : Type ℓ} → ℕ → (Kind → List ℕ → B) → Kind → List ℕ → B
below a f k = under a (f k)

abbrev pub from {ℓ} : {B : Type ℓ} → List ℕ → (Kind → List ℕ → B) → Kind → List ℕ → B
from s f k u = f k (s ++ u)
