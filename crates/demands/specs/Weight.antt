-- WEIGHT 4 IS THE PENALTY AS IT WAS (document 02, E5): "weight 4 picks the old triple and prints four times the old score". Proved in proofs/Weight. Assumes nothing.
use Rattle.std.specs.Prelude.{ℕ, ◌<◌, ◌≡◌, List, [], ◌∷◌, ◌++◌, length, pos, ◌*ℤ◌}
use Rattle.numbers.specs.Limits.{plain_weight}
use Rattle.contexts.specs.Sitting.{Sitting}
use Rattle.estimate.specs.Trees.{Triple}
use Rattle.estimate.specs.Score.{score}
use Rattle.estimate.specs.Doubled.{doubled_worths, AsDoubled}
use Rattle.rows.specs.Rows.{rows_of}
use Rattle.replay.specs.Room.{Making}
use Rattle.replay.specs.Table.{Outcome, answered}
use Rattle.replay.specs.Machine.{asking, Call, at_desk}
use Rattle.replay.specs.Serial.{Course, struck, sittings}
use Rattle.rules.specs.Report.{Reported}
use Rattle.rules.specs.Rules.{Answer, reporting, reported, rules}
use Rattle.rules.specs.Strings.{sitting_for}
use Rattle.judgement.specs.Judgement.{file_sitting}
use Rattle.printing.specs.declared.Head.{Head}
use Rattle.demands.specs.Demands.{JointEstimate, ItsStrings}
use Rattle.demands.specs.Program.{OfItsFile}
use Rattle.demands.specs.Runs.{MadeNew, Run}

-- the report has the rows of the triple that the doubled score picks, and four times that score
pub record AsBefore (x : Sitting) (r : Reported) : Type 0 where
  pub triple : Triple
  pub picked : AsDoubled x triple
  pub rows : r.rows ≡ rows_of x triple
  pub score_is : r.score ≡ pos plain_weight *ℤ score x.symbols x.depth (doubled_worths x) triple

-- every joint estimate at weight 4 is such a report
abbrev pub PlainEstimate : Type 0
PlainEstimate = (x : Sitting) (r : Reported) → 0 < x.symbols → x.weight ≡ plain_weight → JointEstimate x r → AsBefore x r

-- of the strings that the latest sitting at desk d was fed, of the sittings gs of a run
pub record PlainAt (gs : List (Course rules)) (d : ℕ) (r : Reported) : Type 0 where
  pub its : ItsStrings gs d
  pub as_before : its.named.weight ≡ plain_weight → AsBefore (sitting_for its.named its.strings) r

-- .. so is, in any run on a newly made store, every accepted report on a sitting that was opened with weight 4: `before` are the calls before it
abbrev pub PlainReports : Type 0
PlainReports =
    (K : Making) (σ τ : List ℕ) (cs : List (Call rules)) (os : List (Outcome Answer)) → MadeNew K σ → Run σ cs os τ
    → (before behind : List (Call rules)) (said saying : List (Outcome Answer)) (d sheet place : ℕ) (r : Reported) → length before ≡ length said
    → cs ≡ before ++ (at_desk d (asking (reporting sheet place)) ∷ behind) → os ≡ said ++ (answered (reported r) ∷ saying)
    → PlainAt (sittings rules [] (struck rules before said)) d r

-- .. and every report of the program
abbrev pub PlainProgram : Type 0
PlainProgram = (file sheet sheet' : List ℕ) (head : Head) (its : OfItsFile file sheet head sheet') → AsBefore (file_sitting file its.shape) its.report
