-- What a visit to one context asks and gives. Assumes nothing.
use Rattle.std.specs.Prelude.{◌≡◌, true, cond, not, List, ℕ, suc, ◌+◌, ◌-◌, ◌*◌, ◌^◌, ◌≤◌, ◌<◌, min, length, get_or, set, T, leb}
use Rattle.numbers.specs.Limits.{deepest, most_counted}
use Rattle.numbers.specs.Sum.{one}
use Rattle.contexts.specs.Context.{is_context}
use Rattle.contexts.specs.Keys.{digits, desk_span, key_of, context_of}
use Rattle.contexts.specs.Sitting.{first, second, row_in, sum_of}
use Rattle.estimate.specs.Trees.{Kind}
use Rattle.estimate.specs.Recursion.{losses}
use Rattle.estimate.specs.Table.{for_kind, CostsOf, most_cost, most_spread}
use Rattle.estimate.specs.Adding.{SumOf, SumFits}
use Rattle.estimate.specs.declared.ByKind.{ByKind}
use Rattle.records.specs.Records.{width, records, keys}
use Rattle.records.specs.Held.{rank, held, record_at, count_table}
use Rattle.weighing.specs.declared.Desk.{Desk}
use Rattle.weighing.specs.declared.Context.{Context}
use Rattle.weighing.specs.declared.Weighed.{Weighed}
use Rattle.weighing.specs.Sitting.{sitting_in, Weighable}
use Rattle.weighing.specs.Trees.{least_at, members_at, choice, mark_of}

-- ---- where a visit stands

-- how many keys the block of a context has: an octal digit for each symbol that could follow, and one for the length
abbrev pub span_of : List ℕ → ℕ
span_of s = 8 ^ (suc deepest - length s)

-- where the block of a desk's context ends: no context that begins with s has this key or one above
abbrev pub end_of : ℕ → List ℕ → ℕ
end_of d s = d * desk_span + (digits deepest s * 8 + span_of s)

-- the counts of the record at a place can be weighed
pub record Countable (l : List ℕ) (p : ℕ) (costs : ByKind) : Type 0 where
  pub fits : width * (p + 1) ≤ length l
  pub counted : sum_of (row_in (count_table (record_at p l)) first) + sum_of (row_in (count_table (record_at p l)) second) ≤ most_counted
  pub shared_cost : costs.shared ≤ most_cost
  pub first_cost : costs.first ≤ most_cost
  pub second_cost : costs.second ≤ most_cost

-- the walk has come to the context s of a desk
pub record Arrived (k : Desk) (costs : ByKind) (n : ℕ) (l : List ℕ) (s : List ℕ) (c : Context) (p : ℕ) : Type 0 where
  pub weighable : Weighable k n l
  pub priced : CostsOf k.weight k.symbols k.n k.m costs
  pub context : T (is_context k.symbols k.depth s)
  pub key_is : c.key ≡ key_of k.number s
  pub span_is : c.span ≡ span_of s
  pub left_is : length s + c.left ≡ k.depth
  pub place : p ≡ rank (key_of k.number s) (keys (records n l))

-- what a visit to a context asks: the walk has come to it, it is held, and a number stands beside each record
pub record CanVisit (k : Desk) (costs : ByKind) (n : ℕ) (l kept : List ℕ) (c : Context) (p : ℕ) : Type 0 where
  pub ready : Arrived k costs n l (context_of c.key) c p
  pub on : held c.key (records n l) ≡ true
  pub beside : n ≤ length kept

-- ---- what it gives

-- the decisions of the records from place p up to place q
pub record Marked (k : Desk) (n : ℕ) (l : List ℕ) (p q : ℕ) (kept : List ℕ) : Type 0 where
  pub is : (j : ℕ) → p ≤ j → j < q → get_or kept j 0 ≡ mark_of k.symbols k.depth (losses (sitting_in k (records n l))) (get_or l (width * j) 0)

-- nothing outside is written
pub record Apart (p q : ℕ) (before after : List ℕ) : Type 0 where
  pub low : (j : ℕ) → j < p → get_or after j 0 ≡ get_or before j 0
  pub high : (j : ℕ) → q ≤ j → get_or after j 0 ≡ get_or before j 0

-- the least loss and the members of each tree at s with d symbols left, the place past its block, and the decisions in between
pub record Visited (k : Desk) (n : ℕ) (l : List ℕ) (s : List ℕ) (d p : ℕ) (before after : List ℕ) (r : Weighed) : Type 0 where
  pub least : (t : Kind) → for_kind r.least t ≡ least_at k.symbols d (losses (sitting_in k (records n l))) t s
  pub rows : (t : Kind) → for_kind r.rows t ≡ length (members_at k.symbols d (losses (sitting_in k (records n l))) t s)
  pub past : r.next ≡ rank (end_of k.number s) (keys (records n l))
  pub marked : Marked k n l p r.next after
  pub apart : Apart p r.next before after

-- ---- the numbers of one context, from its own losses and from what its children give

-- no loss is above this
abbrev pub most_loss : ℕ
most_loss = most_cost + most_spread

-- two such losses can be added
pub record Small (own : ByKind) : Type 0 where
  pub first : own.first ≤ most_loss
  pub second : own.second ≤ most_loss

-- a leaf with these losses; the walk goes on at a place
pub record LeafOf (own : ByKind) (next : ℕ) (r : Weighed) : Type 0 where
  pub first : r.least.first ≡ own.first
  pub second : r.least.second ≡ own.second
  pub joint : r.least.shared ≡ min own.shared (own.first + own.second)
  pub first_rows : r.rows.first ≡ 1
  pub second_rows : r.rows.second ≡ 1
  pub joint_rows : r.rows.shared ≡ cond (leb own.shared (own.first + own.second)) 1 2
  pub onward : r.next ≡ next

-- a leaf with these losses, or a split over children that lose and hold this together
pub record SplitOf (own : ByKind) (children r : Weighed) : Type 0 where
  pub first : r.least.first ≡ min own.first children.least.first
  pub second : r.least.second ≡ min own.second children.least.second
  pub joint : r.least.shared ≡ min own.shared (min (r.least.first + r.least.second) children.least.shared)
  pub first_rows : r.rows.first ≡ cond (leb own.first children.least.first) 1 children.rows.first
  pub second_rows : r.rows.second ≡ cond (leb own.second children.least.second) 1 children.rows.second
  pub joint_rows : r.rows.shared
      ≡ cond (leb own.shared (min (r.least.first + r.least.second) children.least.shared)) 1
      (cond (leb (r.least.first + r.least.second) children.least.shared) (r.rows.first + r.rows.second) children.rows.shared)
  pub onward : r.next ≡ children.next

-- the decision at a leaf with these losses ..
abbrev pub leaf_mark : ByKind → ℕ
leaf_mark own = one (not (leb own.shared (own.first + own.second)))

-- .. and over children that lose this together
abbrev pub split_mark : ByKind → ByKind → ℕ
split_mark own below =
    choice own.shared (min own.first below.first + min own.second below.second) below.shared
    + 3 * one (not (leb own.first below.first)) + 6 * one (not (leb own.second below.second))

-- a leaf at place p, where its decision is kept
pub record LeafHere (own : ByKind) (p : ℕ) (before after : List ℕ) (r : Weighed) : Type 0 where
  pub mark : after ≡ set before p (leaf_mark own)
  pub is : LeafOf own (p + 1) r

-- a leaf or a split at place p, where its decision is kept
pub record SplitHere (own : ByKind) (p : ℕ) (children : Weighed) (before after : List ℕ) (r : Weighed) : Type 0 where
  pub mark : after ≡ set before p (split_mark own children.least)
  pub is : SplitOf own children r

-- no child yet
pub record NoneOf (next : ℕ) (r : Weighed) : Type 0 where
  pub least : (t : Kind) → for_kind r.least t ≡ 0
  pub rows : (t : Kind) → for_kind r.rows t ≡ 0
  pub onward : r.next ≡ next

-- a child more can be added
pub record CanAdd (children w : Weighed) : Type 0 where
  pub least : SumFits children.least w.least
  pub rows : SumFits children.rows w.rows

-- one child more: the sums, and where the walk goes on after it
pub record ChildOf (children w r : Weighed) : Type 0 where
  pub least : SumOf children.least w.least r.least
  pub rows : SumOf children.rows w.rows r.rows
  pub onward : r.next ≡ w.next

-- a leaf that costs this can be added ..
pub record CanAddUnseen (costs : ByKind) (children : Weighed) : Type 0 where
  pub small : Small costs
  pub fits : (w : Weighed) → LeafOf costs children.next w → CanAdd children w

-- .. and is: it stands for a child that is not held
pub record UnseenOf (costs : ByKind) (children r : Weighed) : Type 0 where
  pub leaf : Weighed
  pub is : LeafOf costs children.next leaf
  pub child : ChildOf children leaf r
