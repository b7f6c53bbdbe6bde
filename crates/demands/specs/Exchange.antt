-- WHICH STRING COMES FIRST DOES NOT MATTER (document 02, E13), nor which symbol has which name. That reports are so related follows from demand 2 and
-- `OneEstimate`, for every weight; what is said of refusals, from their tables. Proved in proofs/Exchange, ExchangedRuns, ExchangedHolding, ExchangedDesks, ExchangedSteps and ExchangedFiles.
-- Assumes nothing.
use Rattle.std.specs.Prelude.{ℕ, ◌<◌, ◌≤◌, ◌≡◌, true, ◌↔◌, List, [], ◌∷◌, ◌++◌, map, length}
use Rattle.numbers.specs.Limits.{most_symbols}
use Rattle.numbers.specs.Renames.{Renames}
use Rattle.contexts.specs.Sitting.{Sample, first, second, sitting_of, contexts_held}
use Rattle.estimate.specs.Exchange.{other}
use Rattle.rows.specs.Rows.{Row}
use Rattle.rows.specs.Exchange.{exchanged_row, renamed_row, InOrderAgain}
use Rattle.replay.specs.Room.{Making, Opening}
use Rattle.replay.specs.Table.{Outcome, refused, answered}
use Rattle.replay.specs.Machine.{is_opened, asking, Call, at_desk}
use Rattle.replay.specs.Serial.{struck, sittings}
use Rattle.store.specs.Meaning.{meaning}
use Rattle.rules.specs.Report.{Reported}
use Rattle.rules.specs.Rules.{Answer, done, Ask, feed, reporting, reported, rules}
use Rattle.rules.specs.Strings.{push}
use Rattle.printing.specs.declared.Head.{Head}
use Rattle.sitting_file.specs.Format.{read_of}
use Rattle.sitting_file.specs.Samples.{Below}
use Rattle.sitting_file.specs.declared.Shape.{Shape}
use Rattle.judgement.specs.Answers.{Answers}
use Rattle.std.specs.Prelude.{Result, Ok, Err}
use Rattle.demands.specs.Demands.{JointEstimate, ItsStrings}
use Rattle.demands.specs.Program.{sample_in, OfItsFile}
use Rattle.demands.specs.Runs.{Does, MadeNew, Run}

-- ---- how a second sitting comes from a first, both over the symbols below A

-- "exchanging a sitting's samples", "any renaming of the symbols one to one" (π, the same for both samples), and both at once
pub data Way (A : ℕ) : Type 0 where
  exchanging : Way A
  renaming : (π : ℕ → ℕ) → Renames A π → Way A
  both : (π : ℕ → ℕ) → Renames A π → Way A

-- which sample of the one is sample i of the other, and what symbol a of the first is in the second
abbrev pub sample_by : {A : ℕ} → Way A → Sample → Sample
sample_by exchanging i = other i
sample_by (renaming π r) i = i
sample_by (both π r) i = other i

abbrev pub symbol_by : {A : ℕ} → Way A → ℕ → ℕ
symbol_by exchanging a = a
symbol_by (renaming π r) a = π a
symbol_by (both π r) a = π a

-- the second's strings
abbrev pub strings_by : {A : ℕ} → Way A → (Sample → List ℕ) → Sample → List ℕ
strings_by exchanging w i = w (other i)
strings_by (renaming π r) w i = map π (w i)
strings_by (both π r) w i = map π (w (other i))

-- a row of the first as one of the second: "kinds 1 and 2 exchanged", "codes and counts renamed likewise"
abbrev pub row_by : {A : ℕ} → Way A → Row → Row
row_by exchanging q = exchanged_row q
row_by {A} (renaming π r) q = renamed_row A π q
row_by {A} (both π r) q = renamed_row A π (exchanged_row q)

-- r is q so changed: "the same score", and the same rows, each changed, none lost or doubled, "in order again"
pub record SameReport {A : ℕ} (way : Way A) (q r : Reported) : Type 0 where
  pub same_score : r.score ≡ q.score
  pub same_rows : InOrderAgain (row_by way) q.rows r.rows

-- of q there is one such report
abbrev pub OneAgain : Type 0
OneAgain = (A : ℕ) (way : Way A) (p q r : Reported) → SameReport way p q → SameReport way p r → q ≡ r

-- ---- THE STATEMENT, of any strings, at any weight, whatever the first counted place

abbrev pub OfStrings : Type 0
OfStrings =
    (A D weight from : ℕ) (way : Way A) (w : Sample → List ℕ) (q r : Reported) → 0 < A → A ≤ most_symbols → ((i : Sample) → Below A (w i))
    → JointEstimate (sitting_of A D weight from w) q → JointEstimate (sitting_of A D weight from (strings_by way w)) r → SameReport way q r

-- ---- THE STATEMENT, of any two accepted reports

-- the latest sitting at a desk, after some run on a newly made store: it was opened with o and fed the strings w, as demand 2 tells them
pub record SittingAt (o : Opening) (w : Sample → List ℕ) : Type 0 where
  pub room : Making
  pub store : List ℕ
  pub made : MadeNew room store
  pub before : List (Call rules)
  pub said : List (Outcome Answer)
  pub now : List ℕ
  pub run : Run store before said now
  pub desk : ℕ
  pub its : ItsStrings (sittings rules [] (struck rules before said)) desk
  pub opened : its.named ≡ o
  pub fed : its.strings ≡ w

-- an ask at its desk then answers so, and leaves the store so
abbrev pub DoesThere : {o : Opening} {w : Sample → List ℕ} → SittingAt o w → Ask → Outcome Answer → List ℕ → Type 0
DoesThere s q x next = Does s.now (at_desk s.desk (asking q)) x next

-- r is a report that was accepted there
pub record ReportOn (o : Opening) (w : Sample → List ℕ) (r : Reported) : Type 0 where
  pub sitting : SittingAt o w
  pub sheet : ℕ
  pub place : ℕ
  pub next : List ℕ
  pub accepted : DoesThere sitting (reporting sheet place) (answered (reported r)) next

-- every accepted report of any run is one, on the strings that demand 2 tells of it
abbrev pub EachReport : Type 0
EachReport =
    (K : Making) (σ τ : List ℕ) (cs : List (Call rules)) (os : List (Outcome Answer)) → MadeNew K σ → Run σ cs os τ
    → (before behind : List (Call rules)) (said saying : List (Outcome Answer)) (d sheet place : ℕ) (r : Reported) → length before ≡ length said
    → cs ≡ before ++ (at_desk d (asking (reporting sheet place)) ∷ behind) → os ≡ said ++ (answered (reported r) ∷ saying)
    → (its : ItsStrings (sittings rules [] (struck rules before said)) d) → ReportOn its.named its.strings r

-- two openings name the same A, D and weight
pub record NamedAlike (o p : Opening) : Type 0 where
  pub symbols : p.symbols ≡ o.symbols
  pub depth : p.depth ≡ o.depth
  pub weight : p.weight ≡ o.weight

-- .. and the second sitting's strings v come from the first's. Reservations, stores, desks, sheets, neighbours and the order of the feeds may differ, and
-- both may be of one run
pub record SittingsAlike (o p : Opening) (way : Way o.symbols) (w v : Sample → List ℕ) : Type 0 where
  pub named : NamedAlike o p
  pub strings : (i : Sample) → v i ≡ strings_by way w i

abbrev pub OfReports : Type 0
OfReports =
    (o p : Opening) (way : Way o.symbols) (w v : Sample → List ℕ) (q r : Reported) → SittingsAlike o p way w v → ReportOn o w q → ReportOn p v r → SameReport way q r

-- ---- such sittings are refused alike

-- "equal lengths and contexts held"
pub record HeldAlike {A : ℕ} (way : Way A) (D weight from : ℕ) (w : Sample → List ℕ) : Type 0 where
  pub lengths : (i : Sample) → length (strings_by way w i) ≡ length (w (sample_by way i))
  pub contexts : contexts_held (sitting_of A D weight from (strings_by way w)) ≡ contexts_held (sitting_of A D weight from w)

abbrev pub HoldAlike : Type 0
HoldAlike = (A D weight from : ℕ) (way : Way A) (w : Sample → List ℕ) → ((i : Sample) → Below A (w i)) → HeldAlike way D weight from w

-- after a feed and its like the strings are each other's again
abbrev pub FedAlike : Type 0
FedAlike =
    (A : ℕ) (way : Way A) (w : Sample → List ℕ) (i : Sample) (a : ℕ) (j : Sample) → push (sample_by way i) (symbol_by way a) (strings_by way w) j ≡ strings_by way (push i a w) j

-- the desk is open still
abbrev pub IsOpen : {o : Opening} {w : Sample → List ℕ} → SittingAt o w → Type 0
IsOpen s = is_opened ((meaning s.now).at s.desk) ≡ true

-- after any run on a newly made store there is a latest sitting at every open desk
abbrev pub EachOpen : Type 0
EachOpen =
    (K : Making) (σ τ : List ℕ) (cs : List (Call rules)) (os : List (Outcome Answer)) → MadeNew K σ → Run σ cs os τ
    → (d : ℕ) → is_opened ((meaning τ).at d) ≡ true → ItsStrings (sittings rules [] (struck rules cs os)) d

-- sample 0 is the first, sample 1 the second
abbrev pub number_of : Sample → ℕ
number_of first = 0
number_of second = 1

-- two sittings that are open, with the same reservation: a feed at the one and its like at the other answer the same (a symbol from A up gets 8 at either)
abbrev pub FeedsAlike : Type 0
FeedsAlike =
    (o p : Opening) (way : Way o.symbols) (w v : Sample → List ℕ) → SittingsAlike o p way w v → p.reserve ≡ o.reserve
    → (one : SittingAt o w) (two : SittingAt p v) → IsOpen one → IsOpen two → (i : Sample) (a : ℕ) → a < o.symbols → (x y : Outcome Answer) (next next' : List ℕ)
    → DoesThere one (feed (number_of i) a) x next → DoesThere two (feed (number_of (sample_by way i)) (symbol_by way a)) y next' → y ≡ x

-- where it is accepted, the sitting goes on: at the same desk, open still, and that symbol stands in its string
pub record GoesOn {o : Opening} {w : Sample → List ℕ} (s : SittingAt o w) (i : Sample) (a : ℕ) (next : List ℕ) : Type 0 where
  pub sitting : SittingAt o (push i a w)
  pub same_store : sitting.now ≡ next
  pub same_desk : sitting.desk ≡ s.desk
  pub is_open : IsOpen sitting

-- .. so after an accepted feed and its like the two sittings are alike again (`FedAlike`)
abbrev pub FeedGoesOn : Type 0
FeedGoesOn =
    (o : Opening) (w : Sample → List ℕ) (s : SittingAt o w) (i : Sample) (a : ℕ) (next : List ℕ) → DoesThere s (feed (number_of i) a) (answered done) next → GoesOn s i a next

-- of any reservations: a report at each, with as long a sheet and the same place, is refused by the same number
abbrev pub ReportsAlike : Type 0
ReportsAlike =
    (o p : Opening) (way : Way o.symbols) (w v : Sample → List ℕ) → SittingsAlike o p way w v
    → (one : SittingAt o w) (two : SittingAt p v) → IsOpen one → IsOpen two → (sheet place n : ℕ) (x y : Outcome Answer) (next next' : List ℕ)
    → DoesThere one (reporting sheet place) x next → DoesThere two (reporting sheet place) y next' → (y ≡ refused n) ↔ (x ≡ refused n)

-- ---- THE STATEMENT, of the program, from two files

-- the second file's samples come from the first's; A and D are the same
pub record FilesAlike (file file' : List ℕ) (shape shape' : Shape) (way : Way shape.alphabet) : Type 0 where
  pub accepted : read_of file ≡ Ok shape
  pub accepted' : read_of file' ≡ Ok shape'
  pub alphabet : shape'.alphabet ≡ shape.alphabet
  pub depth : shape'.depth ≡ shape.depth
  pub samples : (i : Sample) → sample_in file' shape' i ≡ strings_by way (sample_in file shape) i

-- "A, D, n, m, row count, score", with n and m exchanged
abbrev pub exchanged_head : Head → Head
exchanged_head h = record { alphabet = h.alphabet; depth = h.depth; first = h.second; second = h.first; rows = h.rows; score = h.score }

-- n and m are exchanged with the samples, all else is the same
abbrev pub head_by : {A : ℕ} → Way A → Head → Head
head_by exchanging h = exchanged_head h
head_by (renaming π r) h = h
head_by (both π r) h = exchanged_head h

pub record SameProgram {A : ℕ} (way : Way A) (head head' : Head) (q r : Reported) : Type 0 where
  pub same_head : head' ≡ head_by way head
  pub same_report : SameReport way q r

-- two reports that the program gives
abbrev pub OfProgram : Type 0
OfProgram =
    (file sheet after file' sheet' after' : List ℕ) (head head' : Head) (its : OfItsFile file sheet head after) (its' : OfItsFile file' sheet' head' after')
    (way : Way its.shape.alphabet) → FilesAlike file file' its.shape its'.shape way → SameProgram way head head' its.report its'.report

-- the program's answers to two such files, with sheets as long: the one is refused exactly where the other is, by the same number
abbrev pub FilesRefusedAlike : Type 0
FilesRefusedAlike =
    (file file' : List ℕ) (shape shape' : Shape) (way : Way shape.alphabet) → FilesAlike file file' shape shape' way
    → (store sheet store₁ sheet₁ store' sheet' store₁' sheet₁' : List ℕ) (x y : Result Head ℕ) → length sheet' ≡ length sheet
    → Answers file store sheet x store₁ sheet₁ → Answers file' store' sheet' y store₁' sheet₁' → (n : ℕ) → (y ≡ Err n) ↔ (x ≡ Err n)
