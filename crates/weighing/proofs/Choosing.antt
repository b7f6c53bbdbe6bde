-- The numbers that the code works out at one context are the model's: at a leaf, at an unseen context, and over children. Assumes nothing.
use Prim.Native.Nat.{ℕ, zero, suc, ◌+◌, ◌^◌, ◌<◌, min}
use mathlib.Core.Path.{◌≡◌, sym, ap, ◌∙◌}
use mathlib.Core.Bool.{cond}
use mathlib.Core.List.{List}
use lib.ListN.{length}
use lib.Dec.{leb}
use Rattle.contexts.specs.Sitting.{Sample, first, second}
use Rattle.estimate.specs.Trees.{Kind, shared, own, from}
use Rattle.estimate.specs.Recursion.{Losses}
use Rattle.estimate.specs.declared.ByKind.{ByKind}
use Rattle.estimate.specs.Table.{for_kind}
use Rattle.estimate.proofs.Unseen.{Flat}
use Rattle.weighing.specs.declared.Weighed.{Weighed}
use Rattle.weighing.specs.Trees.{least_at, members_at, mark_at}
use Rattle.estimate.specs.Adding.{SumOf, SumFits}
use Rattle.weighing.specs.Visit.{LeafOf, SplitOf, leaf_mark, split_mark}
use Rattle.weighing.proofs.Standing.{least_leaf, joint_leaf, members_leaf, members_joint_leaf, mark_leaf, less_below, members_below, least_split, joint_split, members_split, members_joint_split, mark_split}
use Rattle.weighing.proofs.Flat.{least_flat, members_flat}

-- sums by kind
pub sum_of : (x y r : ByKind) → SumOf x y r → (t : Kind) → for_kind r t ≡ for_kind x t + for_kind y t
sum_of x y r g shared = g.shared
sum_of x y r g (own first) = g.first
sum_of x y r g (own second) = g.second

pub fits_by : (x y : ByKind) → ((t : Kind) → for_kind x t + for_kind y t < 2 ^ 64) → SumFits x y
fits_by x y h = record { shared = h shared; first = h (own first); second = h (own second) }

module _ (A : ℕ) (f : Losses) (s : List ℕ) (o : ByKind) (is : (t : Kind) → for_kind o t ≡ f t s) where
  module _ (p : ℕ) (r : Weighed) (g : LeafOf o p r) where
    pub leaf_least : (t : Kind) → for_kind r.least t ≡ least_at A zero f t s
    leaf_least shared = g.joint ∙ rw (is shared, is (own first), is (own second)) (sym (joint_leaf A f s))
    leaf_least (own first) = g.first ∙ is (own first) ∙ sym (least_leaf A f s first)
    leaf_least (own second) = g.second ∙ is (own second) ∙ sym (least_leaf A f s second)

    pub leaf_members : (t : Kind) → for_kind r.rows t ≡ length (members_at A zero f t s)
    leaf_members shared = g.joint_rows ∙ rw (is shared, is (own first), is (own second)) (sym (members_joint_leaf A f s))
    leaf_members (own first) = g.first_rows ∙ sym (members_leaf A f s first)
    leaf_members (own second) = g.second_rows ∙ sym (members_leaf A f s second)

    -- an unseen context is a leaf with any number of symbols left
    module _ (some : 0 < A) (flat : (t : Kind) → Flat (from s f t)) (d : ℕ) where
      pub absent_least : (t : Kind) → for_kind r.least t ≡ least_at A d f t s
      absent_least t = leaf_least t ∙ sym (least_flat A f s some flat d t)

      pub absent_members : (t : Kind) → for_kind r.rows t ≡ length (members_at A d f t s)
      absent_members t = leaf_members t ∙ ap length (sym (members_flat A f s some flat d t))

  pub leaf_mark_lem : leaf_mark o ≡ mark_at A zero f s
  leaf_mark_lem = rw (is shared, is (own first), is (own second)) (sym (mark_leaf A f s))

  module _ (d : ℕ) (children : Weighed) (less : (t : Kind) → for_kind children.least t ≡ less_below A d f s t) (some : (t : Kind) → for_kind children.rows t ≡ members_below A d f s t) where
    own_least : (x : ℕ) (i : Sample) → x ≡ min (for_kind o (own i)) (for_kind children.least (own i)) → x ≡ least_at A (suc d) f (own i) s
    own_least x i e = e ∙ rw (is (own i), less (own i)) (sym (least_split A d f s i))

    own_members : (x : ℕ) (i : Sample) → x ≡ cond (leb (for_kind o (own i)) (for_kind children.least (own i))) 1 (for_kind children.rows (own i)) → x ≡ length (members_at A (suc d) f (own i) s)
    own_members x i e = e ∙ rw (is (own i), less (own i), some (own i)) (sym (members_split A d f s i))

    module _ (r : Weighed) (g : SplitOf o children r) where
      least_first : r.least.first ≡ least_at A (suc d) f (own first) s
      least_first = own_least r.least.first first g.first

      least_second : r.least.second ≡ least_at A (suc d) f (own second) s
      least_second = own_least r.least.second second g.second

      pub split_least : (t : Kind) → for_kind r.least t ≡ least_at A (suc d) f t s
      split_least shared = g.joint ∙ rw (least_first, least_second, is shared, less shared) (sym (joint_split A d f s))
      split_least (own first) = least_first
      split_least (own second) = least_second

      pub split_members : (t : Kind) → for_kind r.rows t ≡ length (members_at A (suc d) f t s)
      split_members shared =
          g.joint_rows
          ∙ rw (least_first, least_second, is shared, less shared, some shared, own_members r.rows.first first g.first_rows, own_members r.rows.second second g.second_rows)
          (sym (members_joint_split A d f s))
      split_members (own first) = own_members r.rows.first first g.first_rows
      split_members (own second) = own_members r.rows.second second g.second_rows

    pub split_mark_lem : split_mark o children.least ≡ mark_at A (suc d) f s
    split_mark_lem =
        rw (is shared, is (own first), is (own second), less shared, less (own first), less (own second), ← (least_split A d f s first), ← (least_split A d f s second))
        (sym (mark_split A d f s))
