-- THE CHART QUESTION, of its own promise: at any store, and in any run. Proved in proofs/Charts. Assumes nothing.
use Rattle.std.specs.Prelude.{ℕ, ◌<◌, ◌≡◌, List, [], ◌∷◌, ◌++◌, length, T}
use Rattle.contexts.specs.Context.{is_context, code_of}
use Rattle.chart.specs.Says.{ChartSays}
use Rattle.chart.specs.declared.Chart.{Chart}
use Rattle.replay.specs.Room.{Making, Opening}
use Rattle.replay.specs.Table.{Outcome, answered}
use Rattle.replay.specs.Machine.{asking, Call, at_desk}
use Rattle.replay.specs.Serial.{Course, struck, sittings}
use Rattle.rules.specs.Rules.{Answer, charting, point, rules}
use Rattle.rules.specs.Strings.{sitting_for}
use Rattle.calls.specs.Promises.{Asks}
use Rattle.demands.specs.Runs.{MadeNew, Run}
use Rattle.demands.specs.Demands.{ItsStrings}
use Rattle.demands.specs.AnyStore.{OpenAt, sitting_there}

-- "For a desk, a context and a symbol": the context s, of that length and code, and the symbol a are of the sitting that was opened with o
pub record AskedOf (o : Opening) (len code a : ℕ) (s : List ℕ) : Type 0 where
  pub is_context_holds : T (is_context o.symbols o.depth s)
  pub length_is : length s ≡ len
  pub code_is : code_of s ≡ code
  pub symbol : a < o.symbols

-- ---- at any store, also where its counts are those of no string

-- the chart c says of the counts that stand there which samples saw the context, with the symbol's share in each that did
pub record ChartAt (σ : List ℕ) (d len code a : ℕ) (c : Chart) : Type 0 where
  pub desk : OpenAt σ d
  pub context : List ℕ
  pub asked : AskedOf desk.named len code a context
  pub says : ChartSays (sitting_there desk) context a c

-- every accepted chart question that the promise allows is answered so
abbrev pub ChartsAtStores : Type 0
ChartsAtStores = (σ : List ℕ) (d len code a : ℕ) (c : Chart) → Asks σ (at_desk d (asking (charting len code a))) (answered (point c)) → ChartAt σ d len code a c

-- ---- in a run: the counts are the true ones

-- the chart c at desk d is the one of the strings that the desk's own latest sitting was fed, of the sittings gs of a run
pub record ChartOfItsStrings (gs : List (Course rules)) (d len code a : ℕ) (c : Chart) : Type 0 where
  pub its : ItsStrings gs d
  pub context : List ℕ
  pub asked : AskedOf its.named len code a context
  pub says : ChartSays (sitting_for its.named its.strings) context a c

-- every accepted chart question among the calls cs, which answered os, is answered by its sitting's own strings so far
abbrev pub OwnCharts : List (Call rules) → List (Outcome Answer) → Type 0
OwnCharts cs os =
    (before behind : List (Call rules)) (said saying : List (Outcome Answer)) (d len code a : ℕ) (c : Chart) → length before ≡ length said
    → cs ≡ before ++ (at_desk d (asking (charting len code a)) ∷ behind) → os ≡ said ++ (answered (point c) ∷ saying)
    → ChartOfItsStrings (sittings rules [] (struck rules before said)) d len code a c

-- in any run on a newly made store
abbrev pub DemandOfCharts : Type 0
DemandOfCharts = (K : Making) (σ τ : List ℕ) (cs : List (Call rules)) (os : List (Outcome Answer)) → MadeNew K σ → Run σ cs os τ → OwnCharts cs os
