-- REPORTS AT ANY STORE that passes the soundness test, also where its counts are those of no string. Proved in proofs/AnyStores. Assumes nothing.
use Rattle.std.specs.Prelude.{ℕ, ◌≡◌, true, List}
use Rattle.contexts.specs.Sitting.{Sitting, Progress, sat}
use Rattle.rows.specs.Rows.{ZeroFrom}
use Rattle.replay.specs.Room.{Opening, opened}
use Rattle.replay.specs.Table.{answered}
use Rattle.store.specs.Sound.{soundb}
use Rattle.store.specs.Meaning.{meaning}
use Rattle.rules.specs.Report.{Reported}
use Rattle.rules.specs.Rules.{reported}
use Rattle.calls.specs.Promises.{Reports}
use Rattle.demands.specs.Demands.{JointEstimate}

-- the store σ passes the test, and desk d is open there: what was named at the opening, and what the sitting has so far
pub record OpenAt (σ : List ℕ) (d : ℕ) : Type 0 where
  pub sound : soundb σ ≡ true
  pub named : Opening
  pub progress : Progress
  pub at_desk_holds : (meaning σ).at d ≡ opened named progress

-- the sitting there
abbrev pub sitting_there : {σ : List ℕ} {d : ℕ} → OpenAt σ d → Sitting
sitting_there o = sat o.named.symbols o.named.depth o.named.weight o.progress

-- the report r is the joint estimate of the counts that stand there, with "0 for symbols from A up"
pub record ReportAt (σ : List ℕ) (d : ℕ) (r : Reported) : Type 0 where
  pub desk : OpenAt σ d
  pub estimate : JointEstimate (sitting_there desk) r
  pub zero_above : ZeroFrom desk.named.symbols r.rows

-- every accepted report that the promise allows is one
abbrev pub ReportsAtStores : Type 0
ReportsAtStores = (σ sheet after : List ℕ) (d place : ℕ) (r : Reported) → Reports σ d place (answered (reported r)) sheet after → ReportAt σ d r
