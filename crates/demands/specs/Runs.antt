-- Runs of the real functions: each step is what that function's own promise allows, over the numbers before and after. Assumes nothing.
use Rattle.std.specs.Prelude.{ℕ, ◌≡◌, List, [], ◌∷◌, length}
use Rattle.replay.specs.Room.{Making}
use Rattle.replay.specs.Table.{Outcome}
use Rattle.replay.specs.Machine.{opening, asking, closing, Call, at_desk, room_question}
use Rattle.store.specs.Making.{Makes}
use Rattle.rules.specs.Rules.{Answer, feed, reporting, charting, rules}
use Rattle.calls.specs.Refusals.{written_of}
use Rattle.changes.specs.Words.{Words}
use Rattle.std.specs.Prelude.{Result, Ok}
use Rattle.calls.specs.declared.Refusal.{Refusal}
use Rattle.calls.specs.declared.Reported as written
use Rattle.calls.specs.Promises.{Moves, Asks, Reports}

-- a report, with the sheet that was lent to it before and after: it names how many numbers the sheet has, and its rows are those read from the
-- sheet after (`written_of`)
pub record OnSheet (σ : List ℕ) (d sheet place : ℕ) (o : Outcome Answer) (τ : List ℕ) : Type 0 where
  pub before : List ℕ
  pub after : List ℕ
  pub named : length before ≡ sheet
  pub answer : Result written.Reported Refusal
  pub read : o ≡ written_of answer place after
  pub reports : Reports σ d place o before after
  pub only_read : τ ≡ σ

-- a question that only reads the store
pub record OnlyAsked (σ : List ℕ) (c : Call rules) (o : Outcome Answer) (υ : List ℕ) : Type 0 where
  pub asks : Asks σ c o
  pub only_read : υ ≡ σ

-- what a call on the numbers σ may answer, and leave
abbrev pub Does : List ℕ → Call rules → Outcome Answer → List ℕ → Type 0
Does σ (at_desk d (opening p)) o τ = Moves σ (at_desk d (opening p)) o τ
Does σ (at_desk d (asking (feed i a))) o τ = Moves σ (at_desk d (asking (feed i a))) o τ
Does σ (at_desk d (asking (reporting sheet place))) o τ = OnSheet σ d sheet place o τ
Does σ (at_desk d (asking (charting len code a))) o τ = OnlyAsked σ (at_desk d (asking (charting len code a))) o τ
Does σ (at_desk d closing) o τ = Moves σ (at_desk d closing) o τ
Does σ room_question o τ = OnlyAsked σ room_question o τ

-- σ is what an accepted making of room K left, on any numbers
pub record MadeNew (K : Making) (σ : List ℕ) : Type 0 where
  pub lent : List ℕ
  pub makes : Makes K lent (Ok tt) σ

-- calls one after the other, what each answered, and the numbers at the end
pub data Run : List ℕ → List (Call rules) → List (Outcome Answer) → List ℕ → Type 0 where
  stop : {σ : List ℕ} → Run σ [] [] σ
  then : {σ τ υ : List ℕ} {c : Call rules} {cs : List (Call rules)} {o : Outcome Answer} {os : List (Outcome Answer)}
      → Does σ c o τ → Run τ cs os υ → Run σ (c ∷ cs) (o ∷ os) υ

-- ---- that there is such a run

-- some outcome, and numbers after it, are allowed to a call on the numbers σ; and they have 32 bits, where those before have
pub record CanDo (σ : List ℕ) (c : Call rules) : Type 0 where
  pub outcome : Outcome Answer
  pub after : List ℕ
  pub does : Does σ c outcome after
  pub words : Words σ → Words after

-- .. and to calls one after the other
pub record CanRun (σ : List ℕ) (cs : List (Call rules)) : Type 0 where
  pub outcomes : List (Outcome Answer)
  pub end : List ℕ
  pub run : Run σ cs outcomes end
  pub words : Words σ → Words end
