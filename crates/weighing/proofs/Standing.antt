-- The trees that stand at a context, from those of its children: what they lose, how many members they have, and their bounds.
-- Assumes nothing.
use Prim.Native.Nat.{ℕ, zero, suc, ◌+◌, ◌*◌, min}
use mathlib.Core.Path.{◌≡◌, refl, ap, ap₂, ◌∙◌}
use mathlib.Core.Bool.{Bool, true, false, cond, not, ◌&&◌}
use mathlib.Core.List.{List, [], ◌∷◌, ◌++◌}
use native.Mathlib.Omega.{arith}
use lib.ListN.{length, length-append}
use lib.Dec.{leb}
use Rattle.numbers.specs.Sum.{one, sum}
use Rattle.numbers.proofs.Sums.{sum_zero, sum_add, sum_cong}
use Rattle.contexts.specs.Sitting.{Sample, first, second}
use Rattle.estimate.specs.Trees.{Kind, shared, own}
use Rattle.estimate.specs.Recursion.{Losses}
use Rattle.rows.specs.Members.{Member, member, only_if, gather}
use Rattle.rows.specs.Walk.{older, separate_at, leaf_at, owns, walk}
use Rattle.rows.proofs.Values.{best_at_zero, best_at_suc, joint_at_zero, joint_at_suc}
use Rattle.weighing.specs.Trees.{least_at, members_at, choice, mark_at}

-- ---- how many members there are

gather_length : (n : ℕ) (g : ℕ → List Member) → length (gather n g) ≡ sum n (λ a. length (g a))
unfolding gather sum
gather_length zero g = refl
gather_length (suc n) g = length-append (gather n g) (g n) ∙ ap (λ (m : ℕ). m + length (g n)) (gather_length n g)

pub gather_empty : (n : ℕ) {g : ℕ → List Member} → ((a : ℕ) → g a ≡ []) → gather n g ≡ []
unfolding gather
gather_empty zero e = refl
gather_empty (suc n) e = ap₂ ◌++◌ (gather_empty n e) (e n)

pub owns_none : (A d : ℕ) (f : Losses) (s : List ℕ) → owns A d f s false false ≡ []
unfolding owns
owns_none A zero f s = refl
owns_none A (suc d) f s = gather_empty A (λ a. owns_none A d f (older s a))

-- what stands at a string, and at its children
only_length : (A : ℕ) (p q : Bool) (x y : Member) (g : ℕ → List Member) → length (only_if p x (only_if q y []) ++ gather A g) ≡ one p + (one q + sum A (λ a. length (g a)))
only_length A true true x y g = omega (arith, gather_length A g)
only_length A true false x y g = omega (arith, gather_length A g)
only_length A false true x y g = omega (arith, gather_length A g)
only_length A false false x y g = omega (arith, gather_length A g)

owns_length : (A d : ℕ) (f : Losses) (s : List ℕ) (m n : Bool)
    → length (owns A (suc d) f s m n)
    ≡ one (m && leaf_at A d f first s) + (one (n && leaf_at A d f second s)
    + sum A (λ a. length (owns A d f (older s a) (m && not (leaf_at A d f first s)) (n && not (leaf_at A d f second s)))))
unfolding owns
owns_length A d f s m n =
    only_length A (m && leaf_at A d f first s) (n && leaf_at A d f second s) (member (own first) s) (member (own second) s)
    (λ a. owns A d f (older s a) (m && not (leaf_at A d f first s)) (n && not (leaf_at A d f second s)))

none_sum : (A d : ℕ) (f : Losses) (s : List ℕ) → sum A (λ a. length (owns A d f (older s a) false false)) ≡ 0
none_sum A d f s = sum_zero A (λ a l. ap length (owns_none A d f (older s a)))

pub owns_both : (A d : ℕ) (f : Losses) (s : List ℕ) → length (owns A d f s true true) ≡ length (owns A d f s true false) + length (owns A d f s false true)
unfolding owns
owns_both A zero f s = refl
owns_both A (suc d) f s =
    rw (owns_length A d f s true true, owns_length A d f s true false, owns_length A d f s false true)
    (go (leaf_at A d f first s) (leaf_at A d f second s) (λ a. owns_both A d f (older s a)))
  where
    at : Bool → Bool → ℕ
    at m n = sum A (λ a. length (owns A d f (older s a) m n))

    go : (p q : Bool) → ((a : ℕ) → length (owns A d f (older s a) true true) ≡ length (owns A d f (older s a) true false) + length (owns A d f (older s a) false true))
        → one p + (one q + at (not p) (not q)) ≡ (one p + (0 + at (not p) false)) + (0 + (one q + at false (not q)))
    go true true ih = omega (arith, none_sum A d f s)
    go true false ih = omega (arith, none_sum A d f s)
    go false true ih = omega (arith, none_sum A d f s)
    go false false ih =
        omega (arith, sum_cong A (λ a l. ih a), sum_add A (λ a. length (owns A d f (older s a) true false)) (λ a. length (owns A d f (older s a) false true)))

-- ---- at a string with no symbol left

module _ (A : ℕ) (f : Losses) (s : List ℕ) where
  pub least_leaf : (i : Sample) → least_at A zero f (own i) s ≡ f (own i) s
  unfolding least_at
  least_leaf i = best_at_zero A f i s

  apart_leaf : separate_at A zero f s ≡ f (own first) s + f (own second) s
  apart_leaf = ap₂ ◌+◌ (best_at_zero A f first s) (best_at_zero A f second s)

  pub joint_leaf : least_at A zero f shared s ≡ min (f shared s) (f (own first) s + f (own second) s)
  unfolding least_at
  joint_leaf = joint_at_zero A f s ∙ ap (min (f shared s)) apart_leaf

  pub members_leaf : (i : Sample) → length (members_at A zero f (own i) s) ≡ 1
  unfolding members_at owns
  members_leaf first = refl
  members_leaf second = refl

  pub members_joint_leaf : length (members_at A zero f shared s) ≡ cond (leb (f shared s) (f (own first) s + f (own second) s)) 1 2
  unfolding members_at walk owns
  members_joint_leaf = rw apart_leaf (go (leb (f shared s) (f (own first) s + f (own second) s)))
    where
      go : (b : Bool) → length (cond b (member shared s ∷ []) (member (own first) s ∷ member (own second) s ∷ [])) ≡ cond b 1 2
      go true = refl
      go false = refl

  pub mark_leaf : mark_at A zero f s ≡ one (not (leb (f shared s) (f (own first) s + f (own second) s)))
  unfolding mark_at
  mark_leaf = rw apart_leaf

-- ---- at a string with symbols left

module _ (A d : ℕ) (f : Losses) (s : List ℕ) where
  -- what the trees of the children lose together, and how many members they have
  abbrev pub less_below : Kind → ℕ
  less_below k = sum A (λ a. least_at A d f k (older s a))

  abbrev pub members_below : Kind → ℕ
  members_below k = sum A (λ a. length (members_at A d f k (older s a)))

  pub least_split : (i : Sample) → least_at A (suc d) f (own i) s ≡ min (f (own i) s) (less_below (own i))
  unfolding least_at
  least_split i = best_at_suc A d f i s

  pub joint_split : least_at A (suc d) f shared s ≡ min (f shared s) (min (least_at A (suc d) f (own first) s + least_at A (suc d) f (own second) s) (less_below shared))
  unfolding least_at
  joint_split = joint_at_suc A d f s

  pub members_split : (i : Sample) → length (members_at A (suc d) f (own i) s) ≡ cond (leb (f (own i) s) (less_below (own i))) 1 (members_below (own i))
  unfolding members_at least_at
  members_split first = owns_length A d f s true false ∙ go (leaf_at A d f first s)
    where
      go : (p : Bool) → one p + (0 + sum A (λ a. length (owns A d f (older s a) (not p) false))) ≡ cond p 1 (sum A (λ a. length (owns A d f (older s a) true false)))
      go true = omega (arith, none_sum A d f s)
      go false = omega arith
  members_split second = owns_length A d f s false true ∙ go (leaf_at A d f second s)
    where
      go : (p : Bool) → 0 + (one p + sum A (λ a. length (owns A d f (older s a) false (not p)))) ≡ cond p 1 (sum A (λ a. length (owns A d f (older s a) false true)))
      go true = omega (arith, none_sum A d f s)
      go false = omega arith

  pub members_joint_split : let apart = least_at A (suc d) f (own first) s + least_at A (suc d) f (own second) s in
      length (members_at A (suc d) f shared s)
      ≡ cond (leb (f shared s) (min apart (less_below shared))) 1
      (cond (leb apart (less_below shared)) (length (members_at A (suc d) f (own first) s) + length (members_at A (suc d) f (own second) s)) (members_below shared))
  unfolding members_at least_at walk
  members_joint_split = go (leb (f shared s) _) (leb (separate_at A (suc d) f s) _)
    where
      go : (p q : Bool)
          → length (cond p (member shared s ∷ []) (cond q (owns A (suc d) f s true true) (gather A (λ a. walk A d f (older s a)))))
          ≡ cond p 1 (cond q (length (owns A (suc d) f s true false) + length (owns A (suc d) f s false true)) (sum A (λ a. length (walk A d f (older s a)))))
      go true q = refl
      go false true = owns_both A (suc d) f s
      go false false = gather_length A (λ a. walk A d f (older s a))

  pub mark_split : mark_at A (suc d) f s
      ≡ choice (f shared s) (least_at A (suc d) f (own first) s + least_at A (suc d) f (own second) s) (less_below shared)
      + 3 * one (not (leb (f (own first) s) (less_below (own first)))) + 6 * one (not (leb (f (own second) s) (less_below (own second))))
  unfolding mark_at least_at
  mark_split = refl
