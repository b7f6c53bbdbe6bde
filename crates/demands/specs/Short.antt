-- NO REPORT RESTS ON NOTHING (document 02, E8): each sample of an accepted report has more symbols than D, and one that is counted. Proved in proofs/Short. Assumes nothing.
use Rattle.std.specs.Prelude.{ℕ, ◌<◌, ◌≡◌, List, [], ◌∷◌, ◌++◌, length}
use Rattle.contexts.specs.Sitting.{Sample}
use Rattle.replay.specs.Room.{Making}
use Rattle.replay.specs.Table.{Outcome, answered}
use Rattle.replay.specs.Machine.{asking, Call, at_desk}
use Rattle.replay.specs.Serial.{Course, struck, sittings}
use Rattle.rules.specs.Report.{Reported}
use Rattle.rules.specs.Rules.{Answer, reporting, reported, rules}
use Rattle.rules.specs.Short.{NoneCounted}
use Rattle.demands.specs.Demands.{ItsStrings}
use Rattle.demands.specs.Runs.{MadeNew, Run}

-- the strings that the latest sitting at desk d was fed, of the sittings gs of a run, are long enough to be reported on
pub record RestsOnActs (gs : List (Course rules)) (d : ℕ) : Type 0 where
  pub its : ItsStrings gs d
  pub longer : (i : Sample) → its.named.depth < length (its.strings i)
  pub some_counted : (i : Sample) → NoneCounted its.named its.strings i → ⊥

-- in any run on a newly made store, those of every accepted report are: `before` are the calls before it
abbrev pub ReportsRestOnActs : Type 0
ReportsRestOnActs =
    (K : Making) (σ τ : List ℕ) (cs : List (Call rules)) (os : List (Outcome Answer)) → MadeNew K σ → Run σ cs os τ
    → (before behind : List (Call rules)) (said saying : List (Outcome Answer)) (d sheet place : ℕ) (r : Reported) → length before ≡ length said
    → cs ≡ before ++ (at_desk d (asking (reporting sheet place)) ∷ behind) → os ≡ said ++ (answered (reported r) ∷ saying)
    → RestsOnActs (sittings rules [] (struck rules before said)) d
