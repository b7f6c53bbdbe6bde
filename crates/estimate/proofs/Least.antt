-- No admissible triple loses less than the recursion says.
-- Assumes nothing.
use Prim.Native.Nat.{ℕ, zero, suc, ◌≤◌, ◌<◌}
use native.Mathlib.Omega.{arith}
use mathlib.Core.Path.{◌≡◌, refl, subst, fun_ext}
use mathlib.Core.Bool.{Bool, true, false, cond}
use mathlib.Core.List.{List, [], ◌∷◌}
use lib.Dec.{T, ltb}
use Rattle.numbers.proofs.Tests.{T?, right, or_left, or_right, or_rest, or_none}
use Rattle.numbers.proofs.Sums.{sum_mono}
use Rattle.contexts.specs.Context.{is_context}
use Rattle.contexts.specs.Strings.{under, total}
use Rattle.contexts.specs.Sitting.{Sample, first, second}
use Rattle.contexts.proofs.Totalling.{total_root}
use Rattle.estimate.specs.Trees.{Contexts, In, Complete, Kind, shared, own, Triple, tree_of, Admissible, below}
use Rattle.estimate.specs.Ties.{NothingShared}
use Rattle.estimate.specs.Recursion.{Losses, best, separate, joint}
use Rattle.estimate.proofs.Loss.{set_loss, loss_at, loss, loss_sets}

pub counted_yes : (b : Bool) (n : ℕ) → T b → cond b n 0 ≡ n
counted_yes true n t = refl
counted_yes false n t = absurd t

-- a complete tree of depth 0 has the root for a member
pub root_of_zero : {A : ℕ} {t : Contexts} → Complete A zero t → In [] t
unfolding is_context
root_of_zero {A} {t} c = go c.some.0 c.some.1
  where
    go : (s : List ℕ) → In s t → In [] t
    go [] m = m
    go (a ∷ s) m = absurd (c.fits (a ∷ s) m)

-- where the root is no member, the trees of its children are complete
pub child : {A d : ℕ} {t : Contexts} → Complete A (suc d) t → (In [] t → ⊥) → (a : ℕ) → a < A → Complete A d (under a t)
unfolding is_context
child {A} {d} {t} c n a l = record {
  fits = λ s m. right (ltb a A) (is_context A d s) (c.fits (a ∷ s) m);
  some = go c.some.0 c.some.1;
  apart = λ s u. c.apart (a ∷ s) u;
  full = λ s. c.full (a ∷ s);
}
  where
    go : (s : List ℕ) → In s t → (v : List ℕ) × In (a ∷ v) t
    go [] m = absurd (n m)
    go (b ∷ u) m = c.full [] b u m a l

-- no complete tree loses less than `best`
tree_step : (A d : ℕ) (f : List ℕ → ℕ) (t : Contexts) → Complete A (suc d) t
    → ((a : ℕ) → a < A → Complete A d (under a t) → best A d (under a f) ≤ total A d (under a (set_loss f t)))
    → Dec (In [] t) → best A (suc d) f ≤ total A (suc d) (set_loss f t)
unfolding best total
tree_step A d f t c ih (yes m) = omega (arith, counted_yes (t []) (f []) m)
tree_step A d f t c ih (no n) = omega (arith, sum_mono A (λ a l. ih a l (child c n a l)))

pub tree_least : (A d : ℕ) (f : List ℕ → ℕ) (t : Contexts) → Complete A d t → best A d f ≤ total A d (set_loss f t)
unfolding best total
tree_least A zero f t c = omega (arith, counted_yes (t []) (f []) (root_of_zero c))
tree_least A (suc d) f t c = tree_step A d f t c (λ a l. tree_least A d (under a f) (under a t)) (T? (t []))

-- where nothing is shared, a sample's tree is its own set
pub tree_own : (t : Triple) → NothingShared t → (i : Sample) → tree_of t i ≡ t (own i)
tree_own t n i = fun_ext (λ s. or_none (t shared s) (t (own i) s) (n s))

pub own_complete : {A d : ℕ} {t : Triple} → Admissible A d t → NothingShared t → (i : Sample) → Complete A d (t (own i))
own_complete {A} {d} {t} c n i = subst (Complete A d) (tree_own t n i) (c.complete i)

-- .. and the two lose at least what the best two do
pub separate_least : (A d : ℕ) (f : Losses) (t : Triple) → Admissible A d t → NothingShared t → separate A d f ≤ loss A d f t
separate_least A d f t c n =
    omega (arith, alone first, alone second, loss_sets A d f t)
  where
    alone : (i : Sample) → best A d (f (own i)) ≤ total A d (set_loss (f (own i)) (t (own i)))
    alone i = tree_least A d (f (own i)) (t (own i)) (own_complete c n i)

-- where a sample's own tree is a leaf and the root is not shared, nothing is shared
none_shared : {A d : ℕ} {t : Triple} → Admissible A d t → (i : Sample) → In [] (t (own i)) → (In [] (t shared) → ⊥) → NothingShared t
none_shared {A} {d} {t} c i m n s h =
    n (subst (λ u. In u (t shared)) ((c.complete i).apart [] s (or_right (t shared []) (t (own i) []) m) (or_left (t shared s) (t (own i) s) h)) h)

pub child_admissible : {A d : ℕ} {t : Triple} → Admissible A (suc d) t → ((k : Kind) → In [] (t k) → ⊥) → (a : ℕ) → a < A → Admissible A d (below a t)
child_admissible {A} {d} {t} c n a l = record {
  complete = λ i. child (c.complete i) (λ m. n (own i) (or_rest (t shared []) (t (own i) []) m (n shared))) a l;
  disjoint = λ i s. c.disjoint i (a ∷ s);
}

-- the three cases of the source's proof: the root is shared; the root is one sample's own; the root is no member
pub data Top (t : Triple) : Type 0 where
  leaf : In [] (t shared) → Top t
  apart : NothingShared t → Top t
  inner : ((k : Kind) → In [] (t k) → ⊥) → Top t

pub top : {A d : ℕ} {t : Triple} → Admissible A d t → Top t
top {A} {d} {t} c = go (T? (t shared [])) (T? (t (own first) [])) (T? (t (own second) []))
  where
    all : (In [] (t shared) → ⊥) → (In [] (t (own first)) → ⊥) → (In [] (t (own second)) → ⊥) → (k : Kind) → In [] (t k) → ⊥
    all n p q shared = n
    all n p q (own first) = p
    all n p q (own second) = q

    go : Dec (In [] (t shared)) → Dec (In [] (t (own first))) → Dec (In [] (t (own second))) → Top t
    go (yes m) x y = leaf m
    go (no n) (yes m) y = apart (none_shared c first m n)
    go (no n) (no p) (yes m) = apart (none_shared c second m n)
    go (no n) (no p) (no q) = inner (all n p q)

joint_step : (A d : ℕ) (f : Losses) (t : Triple) → Admissible A (suc d) t
    → ((a : ℕ) → a < A → Admissible A d (below a t) → joint A d (below a f) ≤ loss A d (below a f) (below a t))
    → Top t → joint A (suc d) f ≤ loss A (suc d) f t
unfolding joint total best
joint_step A d f t c ih (leaf m) = omega (arith, counted_yes (t shared []) (f shared []) m, total_root A (suc d) (loss_at f t))
joint_step A d f t c ih (apart n) = omega (arith, separate_least A (suc d) f t c n)
joint_step A d f t c ih (inner n) = omega (arith, sum_mono A (λ a l. ih a l (child_admissible c n a l)))

pub joint_least : (A d : ℕ) (f : Losses) (t : Triple) → Admissible A d t → joint A d f ≤ loss A d f t
unfolding joint total best
joint_least A zero f t c = go (top c)
  where
    go : Top t → joint A zero f ≤ loss A zero f t
    go (leaf m) = omega (arith, counted_yes (t shared []) (f shared []) m)
    go (apart n) = omega (arith, separate_least A zero f t c n)
    go (inner n) = absurd (n (own first) (or_rest (t shared []) (t (own first) []) (root_of_zero (c.complete first)) (n shared)))
joint_least A (suc d) f t c = joint_step A d f t c (λ a l. joint_least A d (below a f) (below a t)) (top c)
