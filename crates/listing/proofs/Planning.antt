-- The members that a way wants at a context are those of the plan that its decision gives, and those that the plan wants of its children.
-- Assumes nothing.
use Prim.Native.Nat.{ℕ, zero, suc, ◌+◌, ◌*◌, min}
use mathlib.Core.Path.{◌≡◌, refl, sym, ap, ◌∙◌}
use mathlib.Core.Bool.{Bool, true, false, cond, not, ◌&&◌, ◌||◌}
use mathlib.Core.List.{List, [], ◌∷◌, ◌++◌, append-nil}
use native.Mathlib.Omega.{arith}
use lib.Dec.{leb}
use Rattle.numbers.specs.Sum.{one, sum}
use Rattle.contexts.specs.Sitting.{first, second}
use Rattle.estimate.specs.Trees.{shared, own}
use Rattle.estimate.specs.Recursion.{Losses}
use Rattle.rows.specs.Members.{Member, member, only_if, gather}
use Rattle.rows.specs.Walk.{older, separate_at, joint_at, leaf_at, owns, walk}
use Rattle.listing.specs.declared.Way.{Way}
use Rattle.listing.specs.declared.Plan.{Plan}
use Rattle.weighing.specs.Trees.{choice, mark_at}
use Rattle.listing.specs.Plans.{wanted, goes_on, own_plan, plan_of, here_of}
use Rattle.weighing.proofs.Standing.{gather_empty, owns_none}

-- a way by its three parts
abbrev way : Bool → Bool → Bool → Way
way j m n = record { joint = j; first = m; second = n }

-- the plan of a choice, by the tests x and y that led to it, where own trees split by p and q
plan_for : Way → Bool → Bool → Bool → Bool → Plan
plan_for w x y p q = cond w.joint
    (cond x (record { shared = true; first = false; second = false; next = way false false false })
    (cond y (own_plan true true p q)
    (record { shared = false; first = false; second = false; next = way true false false })))
    (own_plan w.first w.second p q)

plan_mark : (w : Way) (x y p q : Bool) → plan_of w (cond x 0 (cond y 1 2) + 3 * one p + 6 * one q) ≡ plan_for w x y p q
unfolding plan_of plan_for
plan_mark w true y true true = refl
plan_mark w true y true false = refl
plan_mark w true y false true = refl
plan_mark w true y false false = refl
plan_mark w false true true true = refl
plan_mark w false true true false = refl
plan_mark w false true false true = refl
plan_mark w false true false false = refl
plan_mark w false false true true = refl
plan_mark w false false true false = refl
plan_mark w false false false true = refl
plan_mark w false false false false = refl

module _ (A : ℕ) (f : Losses) (s : List ℕ) where
  -- what is not wanted is nothing
  wanted_none : (d : ℕ) (t : List ℕ) → wanted A d f (way false false false) t ≡ []
  unfolding wanted
  wanted_none d t = owns_none A d f t

  module _ (d : ℕ) where
    below : Way → List Member
    below w = gather A (λ a. wanted A d f w (older s a))

    below_none : below (way false false false) ≡ []
    unfolding below
    below_none = gather_empty A (λ a. wanted_none d (older s a))

    owns_by : Bool → Bool → Bool → Bool → List Member
    owns_by m n u v =
        only_if (m && u) (member (own first) s) (only_if (n && v) (member (own second) s) []) ++ gather A (λ a. owns A d f (older s a) (m && not u) (n && not v))

    owns_plan : (m n u v : Bool) → owns_by m n u v ≡ here_of (own_plan m n (not u) (not v)) s ++ below (own_plan m n (not u) (not v)).next
    unfolding owns_by below wanted
    owns_plan m n true true = refl
    owns_plan m n true false = refl
    owns_plan m n false true = refl
    owns_plan m n false false = refl

    joint_below : gather A (λ a. walk A d f (older s a)) ≡ below (way true false false)
    unfolding below wanted
    joint_below = refl

    split_plan : (j m n x y u v : Bool)
        → cond j (cond x (member shared s ∷ []) (cond y (owns_by true true u v) (gather A (λ a. walk A d f (older s a))))) (owns_by m n u v)
        ≡ here_of (plan_for (way j m n) x y (not u) (not v)) s ++ below (plan_for (way j m n) x y (not u) (not v)).next
    unfolding plan_for
    split_plan false m n x y u v = owns_plan m n u v
    split_plan true m n true y u v = sym (ap (λ (l : List Member). member shared s ∷ l) below_none)
    split_plan true m n false true u v = owns_plan true true u v
    split_plan true m n false false u v = joint_below

    -- THEOREM. With symbols left: the rows at the context, then those of its children in order
    pub wanted_split : (w : Way) → wanted A (suc d) f w s
        ≡ here_of (plan_of w (mark_at A (suc d) f s)) s ++ gather A (λ a. wanted A d f (plan_of w (mark_at A (suc d) f s)).next (older s a))
    unfolding wanted walk owns owns_by below mark_at choice
    wanted_split w =
        let j = sum A (λ a. joint_at A d f (older s a)) in
        let x = leb (f shared s) (min (separate_at A (suc d) f s) j) in
        let y = leb (separate_at A (suc d) f s) j in
        let u = leaf_at A d f first s in
        let v = leaf_at A d f second s in
        split_plan w.joint w.first w.second x y u v
        ∙ sym (ap (λ (p : Plan). here_of p s ++ below p.next) (plan_mark w x y (not u) (not v)))

  -- with none left
  pub wanted_leaf : (w : Way) → (wanted A zero f w s ≡ here_of (plan_of w (mark_at A zero f s)) s) × (goes_on (plan_of w (mark_at A zero f s)).next ≡ false)
  unfolding wanted walk owns mark_at plan_of
  wanted_leaf w = go w.joint w.first w.second (leb (f shared s) (separate_at A zero f s))
    where
      go : (j m n b : Bool)
          → (cond j (cond b (member shared s ∷ []) (owns A zero f s true true)) (owns A zero f s m n) ≡ here_of (plan_of (way j m n) (one (not b))) s)
          × (goes_on (plan_of (way j m n) (one (not b))).next ≡ false)
      go true m n true = (refl, refl)
      go true m n false = (refl, refl)
      go false true true true = (refl, refl)
      go false true true false = (refl, refl)
      go false true false true = (refl, refl)
      go false true false false = (refl, refl)
      go false false true true = (refl, refl)
      go false false true false = (refl, refl)
      go false false false true = (refl, refl)
      go false false false false = (refl, refl)

  -- ---- where the walk goes on, and where it stops

  nothing_on : (d : ℕ) (w : Way) → goes_on w ≡ false → (t : List ℕ) → wanted A d f w t ≡ []
  unfolding wanted
  nothing_on d w e t = go w.joint w.first w.second e
    where
      go : (j m n : Bool) → j || (m || n) ≡ false → cond j (walk A d f t) (owns A d f t m n) ≡ []
      go true m n e = let z : ◌≡◌ {A = ℕ} 0 1 = cc in absurd (omega arith)
      go false true n e = let z : ◌≡◌ {A = ℕ} 0 1 = cc in absurd (omega arith)
      go false false true e = let z : ◌≡◌ {A = ℕ} 0 1 = cc in absurd (omega arith)
      go false false false e = owns_none A d f t

  pub wanted_stop : (d : ℕ) (w : Way) → goes_on (plan_of w (mark_at A d f s)).next ≡ false → wanted A d f w s ≡ here_of (plan_of w (mark_at A d f s)) s
  wanted_stop zero w e = (wanted_leaf w).0
  wanted_stop (suc d) w e =
      wanted_split d w
      ∙ ap (λ (l : List Member). here_of (plan_of w (mark_at A (suc d) f s)) s ++ l) (gather_empty A (λ a. nothing_on d (plan_of w (mark_at A (suc d) f s)).next e (older s a)))
      ∙ append-nil (here_of (plan_of w (mark_at A (suc d) f s)) s)

  pub goes_deeper : (d : ℕ) (w : Way) → goes_on (plan_of w (mark_at A d f s)).next ≡ true → d ≡ 0 → ⊥
  goes_deeper zero w e z = let y : ◌≡◌ {A = Bool} true false = sym e ∙ (wanted_leaf w).1 in let x : ◌≡◌ {A = ℕ} 0 1 = cc in absurd (omega arith)
  goes_deeper (suc d) w e z = absurd (omega arith)
