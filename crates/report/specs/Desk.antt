-- An open desk of a store, as a weighing takes it. Assumes nothing.
use Rattle.std.specs.Prelude.{ℕ, ◌^◌, ◌<◌, ◌≡◌, true, List, length, drop}
use Rattle.contexts.specs.Sitting.{first, second}
use Rattle.estimate.specs.Recursion.{losses, joint}
use Rattle.rows.specs.Rows.{report_of}
use Rattle.store.specs.Layout.{header_size, used, symbols_at, depth_at, weight_at, size_at}
use Rattle.store.specs.Sound.{soundb}
use Rattle.store.specs.Plain.{Open}
use Rattle.store.specs.Meaning.{sitting_at}
use Rattle.weighing.specs.Weighs.{Decided}
use Rattle.weighing.specs.declared.Desk.{Desk}
use Rattle.weighing.specs.declared.Least.{Least}

-- its number, A, D, the weight and the samples' lengths
abbrev pub desk_in : List ℕ → ℕ → Desk
desk_in s d = record { number = d; symbols = symbols_at s d; depth = depth_at s d; weight = weight_at s d; n = size_at s d first; m = size_at s d second }

-- the numbers are those of a sound store with that desk open, and both samples have more symbols than D
pub record CanReportOn (s : List ℕ) (k : Desk) : Type 0 where
  pub sound : soundb s ≡ true
  pub at_open : Open s k.number
  pub is_desk : k ≡ desk_in s k.number
  pub long_first : k.depth < k.n
  pub long_second : k.depth < k.m

-- the decisions of the desk's trees stand beside its records
abbrev pub DecidedDesk : List ℕ → ℕ → List ℕ → Type 0
DecidedDesk s d kept = Decided (desk_in s d) (used s) (drop header_size s) kept

-- .. and what the trees lose at least, and how many rows the report has
pub record WeighedDesk (s : List ℕ) (d : ℕ) (kept : List ℕ) (r : Least) : Type 0 where
  pub decided : DecidedDesk s d kept
  pub joint_is : r.joint ≡ joint (symbols_at s d) (depth_at s d) (losses (sitting_at s d))
  pub rows_are : r.rows ≡ length (report_of (sitting_at s d))
  pub joint_small : r.joint < 2 ^ 63
  pub rows_small : r.rows < 2 ^ 32
