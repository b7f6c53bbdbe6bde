-- DEMAND 3, THAT THE REPLAY CAN BE RUN: whatever numbers are lent, no call's promise asks what cannot be, so the replay's run exists; and nothing in
-- it is refused. Proved in proofs/Replays. Assumes nothing.
use Rattle.std.specs.Prelude.{ℕ, ◌≤◌}
use mathlib.Core.List.{List, Memᴰ}
use Rattle.numbers.specs.Limits.{most_room}
use Rattle.replay.specs.Room.{Making}
use Rattle.replay.specs.Table.{Outcome, refused}
use Rattle.replay.specs.Machine.{Call}
use Rattle.replay.specs.Serial.{calls, struck, serial}
use Rattle.rules.specs.Rules.{Answer, rules}
use Rattle.changes.specs.Words.{Words}
use Rattle.demands.specs.Runs.{MadeNew, Run, CanDo}
use Rattle.demands.specs.Demands.{Replayed}

-- each call, at any numbers, has an outcome that its promise allows
abbrev pub EachCan : Type 0
EachCan = (σ : List ℕ) (c : Call rules) → CanDo σ c

-- a store newly made of room K
pub record NewStore (K : Making) : Type 0 where
  pub store : List ℕ
  pub made : MadeNew K store
  pub words : Words store

-- every room within the limits has one
abbrev pub EachRoom : Type 0
EachRoom = (K : Making) → 1 ≤ K → K ≤ most_room → NewStore K

-- the run of the calls cs, which answered os and left τ, replays on the store σ'
pub record Replays (cs : List (Call rules)) (os : List (Outcome Answer)) (τ σ' : List ℕ) : Type 0 where
  pub outcomes : List (Outcome Answer)
  pub end : List ℕ
  pub run : Run σ' (calls rules (serial rules (struck rules cs os))) outcomes end
  pub words : Words σ' → Words end
  -- "nothing is refused"
  pub none_refused : (n : ℕ) → Memᴰ (refused n) outcomes → ⊥
  pub replayed : Replayed cs os outcomes τ end

-- any run on a newly made store replays on every store newly made of the same room
abbrev pub Demand3Runs : Type 0
Demand3Runs = (K : Making) (σ τ σ' : List ℕ) (cs : List (Call rules)) (os : List (Outcome Answer)) → MadeNew K σ → Run σ cs os τ → MadeNew K σ' → Replays cs os τ σ'
