-- What a weighing of a desk's records promises. Assumes nothing.
use Rattle.std.specs.Prelude.{◌≡◌, ◌≢◌, List, ℕ, ◌*◌, ◌≤◌, ◌<◌, length, get_or}
use Rattle.contexts.specs.Keys.{desk_of}
use Rattle.contexts.specs.Sitting.{first, second}
use Rattle.estimate.specs.Trees.{own}
use Rattle.estimate.specs.Recursion.{losses, best, joint}
use Rattle.rows.specs.Rows.{report_of}
use Rattle.records.specs.Records.{width, records}
use Rattle.weighing.specs.declared.Desk.{Desk}
use Rattle.weighing.specs.declared.Least.{Least}
use Rattle.weighing.specs.Sitting.{sitting_in, Weighable}
use Rattle.weighing.specs.Trees.{mark_of}

-- a number stands beside each record
pub record CanWeigh (k : Desk) (n : ℕ) (l kept : List ℕ) : Type 0 where
  pub weighable : Weighable k n l
  pub beside : n ≤ length kept

-- the decision at each context of the desk stands beside its record
pub record Decided (k : Desk) (n : ℕ) (l kept : List ℕ) : Type 0 where
  pub beside : n ≤ length kept
  pub is : (j : ℕ) → j < n → desk_of (get_or l (width * j) 0) ≡ k.number
      → get_or kept j 0 ≡ mark_of k.symbols k.depth (losses (sitting_in k (records n l))) (get_or l (width * j) 0)

-- what the trees of the desk's sitting lose at least, each alone and both together, and how many rows its report has
pub record Weighs (k : Desk) (n : ℕ) (l before kept : List ℕ) (r : Least) : Type 0 where
  pub first_least : r.first ≡ best k.symbols k.depth (losses (sitting_in k (records n l)) (own first))
  pub second_least : r.second ≡ best k.symbols k.depth (losses (sitting_in k (records n l)) (own second))
  pub joint_least : r.joint ≡ joint k.symbols k.depth (losses (sitting_in k (records n l)))
  pub rows_are : r.rows ≡ length (report_of (sitting_in k (records n l)))
  pub decided : Decided k n l kept
  -- beside the records of other desks, and past all records, every number is as before
  pub others_stay : (j : ℕ) → (j < n → desk_of (get_or l (width * j) 0) ≢ k.number) → get_or kept j 0 ≡ get_or before j 0
  pub length_stays : length kept ≡ length before
