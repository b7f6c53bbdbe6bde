-- The walk from the root, by strings, gives the members of the estimate; below an unseen string it does not go. Assumes nothing.
use Prim.Native.Nat.{ℕ, zero, suc, min, ◌<◌}
use mathlib.Core.Path.{◌≡◌, refl, sym, ap, ap₂, fun_ext, ◌∙◌}
use mathlib.Core.Bool.{Bool, true, false, cond, not, ◌&&◌, and-true, and_assoc}
use mathlib.Core.List.{List, [], ◌∷◌, ◌++◌, map}
use lib.Dec.{leb, ltb, lt→ltb}
use Rattle.numbers.specs.Sum.{sum}
use Rattle.numbers.proofs.Tests.{choose, choose₂, and_yes}
use Rattle.contexts.specs.Strings.{under}
use Rattle.contexts.specs.Sitting.{Sample, first, second}
use Rattle.estimate.specs.Trees.{Kind, shared, own, Triple, root, shared_leaf, separate_trees, below, from}
use Rattle.estimate.specs.Recursion.{Losses, best, split, split_both, tree, estimate}
use Rattle.estimate.proofs.Unseen.{Flat, unseen}
use Rattle.rows.specs.Members.{Member, member, gather, members}
use Rattle.rows.specs.Walk.{older, separate_at, joint_at, leaf_at, owns, walk}
use Rattle.rows.proofs.Values.{from_child, from_here, children_best, children_joint}
use Rattle.rows.proofs.Prefixes.{prefix, gather_cong, root_at, prefix_here, members_suc, members_top}

-- ---- the own trees

-- the triple of the own trees that are still growing
grow : ℕ → ℕ → Losses → Bool → Bool → Triple
grow A d g m n shared s = false
grow A d g m n (own first) s = m && tree A d (g (own first)) s
grow A d g m n (own second) s = n && tree A d (g (own second)) s

-- the test that a tree makes at its root
leaf : ℕ → ℕ → (List ℕ → ℕ) → Bool
leaf A d g = leb (g []) (sum A (λ a. best A d (under a g)))

leaf_from : (A d : ℕ) (f : Losses) (i : Sample) (s : List ℕ) → leaf A d (from s f (own i)) ≡ leaf_at A d f i s
unfolding leaf
leaf_from A d f i s = ap₂ leb (from_here f s (own i)) (children_best A d f i s)

tree_root : (A d : ℕ) (g : List ℕ → ℕ) → tree A (suc d) g [] ≡ leaf A d g
unfolding tree leaf
tree_root A d g = go (leaf A d g)
  where
    go : (b : Bool) → cond b root (split A (λ a. tree A d (under a g))) [] ≡ b
    go true = refl
    go false = refl

tree_child : (A d : ℕ) (g : List ℕ → ℕ) (a : ℕ) (u : List ℕ) → a < A → tree A (suc d) g (a ∷ u) ≡ not (leaf A d g) && tree A d (under a g) u
unfolding tree leaf
tree_child A d g a u l = go (leaf A d g)
  where
    go : (b : Bool) → cond b root (split A (λ e. tree A d (under e g))) (a ∷ u) ≡ not b && tree A d (under a g) u
    go true = refl
    go false = and_yes (ltb a A) (tree A d (under a g) u) (lt→ltb a A l)

grow_child : (A d : ℕ) (g : Losses) (m n : Bool) (a : ℕ) → a < A
    → below a (grow A (suc d) g m n) ≡ grow A d (below a g) (m && not (leaf A d (g (own first)))) (n && not (leaf A d (g (own second))))
unfolding grow
grow_child A d g m n a l = fun_ext (λ k. fun_ext (λ u. go k u))
  where
    go : (k : Kind) (u : List ℕ) → grow A (suc d) g m n k (a ∷ u) ≡ grow A d (below a g) (m && not (leaf A d (g (own first)))) (n && not (leaf A d (g (own second)))) k u
    go shared u = refl
    go (own first) u = ap (m &&◌) (tree_child A d (g (own first)) a u l) ∙ sym (and_assoc m _ _)
    go (own second) u = ap (n &&◌) (tree_child A d (g (own second)) a u l) ∙ sym (and_assoc n _ _)

owns_members : (A d : ℕ) (f : Losses) (s : List ℕ) (m n : Bool) → owns A d f s m n ≡ map (prefix s) (members A d (grow A d (from s f) m n))
unfolding owns members grow tree root_at
owns_members A zero f s m n = sym (prefix_here s (grow A zero (from s f) m n) ∙ ap₂ (root_at s false) (and-true m) (and-true n))
owns_members A (suc d) f s m n =
    ap₂ ◌++◌ (ap₂ (root_at s false) (top first m) (top second n)) (gather_cong A (λ a l. owns_members A d f (older s a) _ _ ∙ ap (λ (t : Triple). map (prefix (older s a)) (members A d t)) (child a l)))
    ∙ sym (members_suc A d (grow A (suc d) (from s f) m n) s)
  where
    top : (i : Sample) (b : Bool) → b && leaf_at A d f i s ≡ b && tree A (suc d) (from s f (own i)) []
    top i b = ap (b &&◌) (sym (tree_root A d (from s f (own i)) ∙ leaf_from A d f i s))

    child : (a : ℕ) → a < A → grow A d (from (older s a) f) (m && not (leaf_at A d f first s)) (n && not (leaf_at A d f second s)) ≡ below a (grow A (suc d) (from s f) m n)
    child a l =
        sym (grow_child A d (from s f) m n a l ∙ ap (λ (g : Losses). grow A d g (m && not (leaf A d (from s f (own first)))) (n && not (leaf A d (from s f (own second))))) (from_child f s a)
        ∙ ap₂ (λ (x y : Bool). grow A d (from (older s a) f) (m && not x) (n && not y)) (leaf_from A d f first s) (leaf_from A d f second s))

-- ---- the estimate

shared_top : (k : Kind) (a : ℕ) (u : List ℕ) → shared_leaf k (a ∷ u) ≡ false
shared_top shared a u = refl
shared_top (own i) a u = refl

members_shared : (A d : ℕ) (s : List ℕ) → map (prefix s) (members A d shared_leaf) ≡ member shared s ∷ []
unfolding root_at
members_shared A d s = ap (map (prefix s)) (members_top A d shared_leaf shared_top) ∙ prefix_here s shared_leaf

members_separate : (A d : ℕ) (f : Losses) (s : List ℕ) → map (prefix s) (members A d (separate_trees (λ i. tree A d (from s f (own i))))) ≡ owns A d f s true true
unfolding grow
members_separate A d f s = ap (λ (t : Triple). map (prefix s) (members A d t)) (fun_ext (λ k. fun_ext (λ u. go k u))) ∙ sym (owns_members A d f s true true)
  where
    go : (k : Kind) (u : List ℕ) → separate_trees (λ i. tree A d (from s f (own i))) k u ≡ grow A d (from s f) true true k u
    go shared u = refl
    go (own first) u = refl
    go (own second) u = refl

members_split : (A d : ℕ) (h : ℕ → Triple) (s : List ℕ) → map (prefix s) (members A (suc d) (split_both A h)) ≡ gather A (λ a. map (prefix (older s a)) (members A d (h a)))
unfolding root_at
members_split A d h s =
    members_suc A d (split_both A h) s
    ∙ gather_cong A (λ a l. ap (λ (t : Triple). map (prefix (older s a)) (members A d t)) (fun_ext (λ k. fun_ext (λ u. and_yes (ltb a A) (h a k u) (lt→ltb a A l)))))

pub walk_members : (A d : ℕ) (f : Losses) (s : List ℕ) → map (prefix s) (members A d (estimate A d (from s f))) ≡ walk A d f s
unfolding walk estimate
walk_members A zero f s =
    rw (from_here f s shared)
    (choose₂ (λ (t : Triple) (l : List Member). map (prefix s) (members A zero t) ≡ l) (leb (f shared s) (separate_at A zero f s)) shared_leaf _ _ _ (members_shared A zero s) (members_separate A zero f s))
walk_members A (suc d) f s =
    rw (from_here f s shared, children_joint A d f s)
    (choose₂ at (leb (f shared s) (min (separate_at A (suc d) f s) part)) shared_leaf _ _ _ (members_shared A (suc d) s)
    (choose₂ at (leb (separate_at A (suc d) f s) part) _ _ _ _ (members_separate A (suc d) f s)
    (members_split A d (λ a. estimate A d (below a (from s f))) s
    ∙ gather_cong A (λ a l. ap (λ (g : Losses). map (prefix (older s a)) (members A d (estimate A d g))) (from_child f s a) ∙ walk_members A d f (older s a)))))
  where
    at : Triple → List Member → Type 0
    at t l = map (prefix s) (members A (suc d) t) ≡ l

    part : ℕ
    part = sum A (λ a. joint_at A d f (older s a))

map_same : (h : Member → Member) → ((r : Member) → h r ≡ r) → (rs : List Member) → map h rs ≡ rs
map_same h e [] = refl
map_same h e (r ∷ rs) = ap₂ {C = List Member} ◌∷◌ (e r) (map_same h e rs)

-- THE WALK from the root gives the members of the estimate
pub walk_all : (A D : ℕ) (f : Losses) → walk A D f [] ≡ members A D (estimate A D f)
walk_all A D f = sym (walk_members A D f []) ∙ map_same (prefix []) (λ r. refl) (members A D (estimate A D f))

-- ---- an unseen string: the walk does not go below it
zero_top : (A : ℕ) (f : Losses) (k : Kind) (a : ℕ) (u : List ℕ) → estimate A zero f k (a ∷ u) ≡ false
unfolding estimate tree
zero_top A f k a u = choose (λ (t : Triple). t k (a ∷ u) ≡ false) (leb (f shared []) _) _ _ (shared_top k a u) (go k)
  where
    go : (k : Kind) → separate_trees (λ i. root) k (a ∷ u) ≡ false
    go shared = refl
    go (own i) = refl

pub walk_unseen : (A d : ℕ) (f : Losses) (s : List ℕ) → 0 < A → ((k : Kind) → Flat (from s f k)) → walk A d f s ≡ walk A zero f s
walk_unseen A d f s p e =
    sym (walk_members A d f s)
    ∙ ap (λ (t : Triple). map (prefix s) (members A d t)) (unseen A d (from s f) p e)
    ∙ ap (map (prefix s)) (members_top A d _ (zero_top A (from s f)) ∙ sym (members_top A zero _ (zero_top A (from s f))))
    ∙ walk_members A zero f s
