-- Readers of two sample limits (request E2: "files keep their form; a reader of the old limit refuses a longer file with 15 and never cuts it").
-- Assumes nothing.
use Rattle.std.specs.Prelude.{Ok, Err}
use Rattle.std.specs.Prelude.{ℕ, ◌≤◌, ◌<◌, ◌≡◌, ◌⊎◌, List}
use Rattle.sitting_file.specs.Format.{read_up_to}
use Rattle.sitting_file.specs.declared.Shape.{Shape}
use Rattle.sitting_file.specs.declared.Refusal.TheVariants.{OutsideLimits}

-- what a reader of the limit `old` answers to a file, beside one of the limit `new`
pub record OldAndNew (old new : ℕ) (file : List ℕ) (shape : Shape) : Type 0 where
  -- "files keep their form": where both samples are within the old limit, the answers are the same
  pub same : read_up_to new file ≡ Ok shape → shape.first ≤ old → shape.second ≤ old → read_up_to old file ≡ Ok shape
  -- "refuses a longer file with 15"
  pub refuses : read_up_to new file ≡ Ok shape → (old < shape.first) ⊎ (old < shape.second) → read_up_to old file ≡ Err OutsideLimits
  -- "and never cuts it": what the old reader accepts, the new one accepts with the same A, D, n and m
  pub never_cuts : read_up_to old file ≡ Ok shape → read_up_to new file ≡ Ok shape

-- of any two limits, and so of this reader's and any that was before it
abbrev pub OldLimit : Type 0
OldLimit = (old new : ℕ) → old ≤ new → (file : List ℕ) (shape : Shape) → OldAndNew old new file shape
