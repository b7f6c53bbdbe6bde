-- THE THREE DEMANDS, of the public functions' own promises (specs/Runs). Each is a statement, proved in proofs/Demand1, Demand2 and Demand3. Assumes nothing.
use Rattle.std.specs.Prelude.{ℕ, ◌<◌, ◌≡◌, not, ◌↔◌, length}
use mathlib.Core.List.{List, [], ◌∷◌, ◌++◌, reverse, Memᴰ, Perm}
use Rattle.std.proofs.Math.Option.{some}
use Rattle.contexts.specs.Counts.{N_placed}
use Rattle.contexts.specs.Sitting.{Sample, Sitting}
use Rattle.estimate.specs.Trees.{Kind, Triple, In}
use Rattle.estimate.specs.Score.{worths, score, Best}
use Rattle.estimate.specs.Ties.{KeepsTies}
use Rattle.rows.specs.Rows.{ZeroFrom, rows_of}
use Rattle.rows.specs.Members.{member, members, Increasing}
use Rattle.replay.specs.Room.{Making, Opening}
use Rattle.replay.specs.Table.{Line, ◌when◌, Outcome, refused, answered, NoneApplies, First}
use Rattle.replay.specs.Machine.{opening, asking, Call, at_desk, table_of, answer_of}
use Rattle.replay.specs.Serial.{Told, Course, calls, answers, struck, sittings, serial, calls_at, openings}
use Rattle.replay.specs.Alone.{latest, asks}
use Rattle.writing.specs.Writing.{file_of, writing_lines}
use Rattle.salvage.specs.Salvage.{Saved, salvage_lines}
use Rattle.salvage.specs.Saving.{RefusedAsRead}
use Rattle.store.specs.Making.{room_outside, store_short}
use Rattle.std.specs.Prelude.{Result, Ok, Err}
use Rattle.store.specs.declared.Refusal as maker
use Rattle.store.specs.declared.Refusal.TheVariants as making
use Rattle.store.specs.Sound.{soundb}
use Rattle.store.specs.Meaning.{meaning}
use Rattle.rules.specs.Feed.{counted_from}
use Rattle.rules.specs.Orders.{making_order, writing_order, salvage_order, numbers_in, order_in}
use Rattle.rules.specs.Report.{Reported}
use Rattle.rules.specs.Rules.{Answer, done, reporting, reported, rules}
use Rattle.rules.specs.Strings.{strings_of, sitting_for}
use Rattle.sitting_file.specs.Format.{header_of}
use Rattle.sitting_file.specs.Samples.{Below}
use Rattle.sitting_file.specs.declared.Refusal as file
use Rattle.sitting_file.specs.declared.Shape.{Shape}
use Rattle.std.specs.Prelude.{Ok, Err}
use Rattle.demands.specs.Runs.{OnSheet, Does, MadeNew, Run}

-- ---- DEMAND 1: "refuses by number under the stated conditions and no others. A refused call changes neither the store nor the sheet."

-- the whole table of a call on the numbers σ, refusal 1 first
abbrev pub table_on : List ℕ → Call rules → List Line
table_on σ c = 1 when not (soundb σ) ∷ table_of rules (meaning σ) c

-- a call on σ that answers o and leaves τ
pub record Demand1 (σ : List ℕ) (c : Call rules) (o : Outcome Answer) (τ : List ℕ) : Type 0 where
  pub refused_exactly : (n : ℕ) → (o ≡ refused n) ↔ First (table_on σ c) n
  pub answered_exactly : (o ≡ answered (answer_of rules (meaning σ) c)) ↔ NoneApplies (table_on σ c)
  -- "Where several apply", the first of the written list is given: the table has these numbers, in this order
  pub in_order : numbers_in (table_on σ c) ≡ 1 ∷ order_in (meaning σ) c
  pub refused_stays : (n : ℕ) → o ≡ refused n → τ ≡ σ

-- a refused report leaves the sheet that was lent to it
abbrev pub Demand1Sheet : Type 0
Demand1Sheet = (σ τ : List ℕ) (d sheet place n : ℕ) (o : Outcome Answer) (lent : OnSheet σ d sheet place o τ) → o ≡ refused n → lent.after ≡ lent.before

-- the table of a making of room K with n numbers
abbrev pub making_table : ℕ → ℕ → List Line
making_table K n = 17 when room_outside K ∷ 18 when store_short K n ∷ []

-- the answer of a making as an outcome
abbrev pub making_of : Result (Unit {0}) maker.Refusal → Outcome Answer
making_of (Ok u) = answered done
making_of (Err making.RoomOutside) = refused 17
making_of (Err making.StoreShort) = refused 18

-- a making of room K with the numbers σ that answers m and leaves τ
pub record Demand1Making (K : ℕ) (σ : List ℕ) (m : Result (Unit {0}) maker.Refusal) (τ : List ℕ) : Type 0 where
  pub refused_exactly : (n : ℕ) → (making_of m ≡ refused n) ↔ First (making_table K (length σ)) n
  pub made_exactly : (making_of m ≡ answered done) ↔ NoneApplies (making_table K (length σ))
  pub in_order : numbers_in (making_table K (length σ)) ≡ making_order
  pub refused_stays : (n : ℕ) → making_of m ≡ refused n → τ ≡ σ

-- a writing of the file of A, D and two samples (document 02, E1) into the bytes `before`, which answers o and leaves `after`
pub record Demand1Writing (A D : ℕ) (xs ys before : List ℕ) (o : Outcome ℕ) (after : List ℕ) : Type 0 where
  pub refused_exactly : (n : ℕ) → (o ≡ refused n) ↔ First (writing_lines A D xs ys (length before)) n
  pub written_exactly : (o ≡ answered (length (file_of A D xs ys))) ↔ NoneApplies (writing_lines A D xs ys (length before))
  pub in_order : numbers_in (writing_lines A D xs ys (length before)) ≡ writing_order
  pub refused_stays : (n : ℕ) → o ≡ refused n → after ≡ before

-- a salvage of the bytes `damaged` (document 02, E12) into the bytes `before`, which answers o and leaves `after`
pub record Demand1Salvage (damaged before : List ℕ) (o : Outcome Saved) (after : List ℕ) : Type 0 where
  pub refused_exactly : (n : ℕ) → (o ≡ refused n) ↔ First (salvage_lines (header_of damaged) damaged (length before)) n
  pub saved_exactly : ((s : Saved) × (o ≡ answered s)) ↔ NoneApplies (salvage_lines (header_of damaged) damaged (length before))
  pub in_order : (shape : Shape) (at : ℕ) → header_of damaged ≡ Ok (shape, at) → numbers_in (salvage_lines (header_of damaged) damaged (length before)) ≡ salvage_order
  -- a faulty header has the reader's number, never 16
  pub as_the_reader : (why : file.Refusal) → header_of damaged ≡ Err why → RefusedAsRead damaged why o
  pub refused_stays : (n : ℕ) → o ≡ refused n → after ≡ before

-- ---- DEMAND 2: "A report is the joint context tree estimate .."

-- the rows and the score are those of a triple that is admissible (both trees complete), best, and keeps the ties
pub record JointEstimate (x : Sitting) (r : Reported) : Type 0 where
  pub triple : Triple
  pub best : Best x.symbols x.depth (worths x) triple
  pub ties : KeepsTies x.symbols x.depth (worths x) triple
  pub rows : r.rows ≡ rows_of x triple
  -- they are of the triple's contexts, each with its kind, and of no others
  pub each_context : (k : Kind) (s : List ℕ) → Memᴰ (member k s) (members x.symbols x.depth triple) ↔ In s (triple k)
  pub in_order : Increasing (members x.symbols x.depth triple)
  pub score_is : r.score ≡ score x.symbols x.depth (worths x) triple

-- the strings that the latest sitting at desk d was fed, of the sittings gs of a run
pub record ItsStrings (gs : List (Course rules)) (d : ℕ) : Type 0 where
  pub course : Course rules
  pub there : latest rules d gs ≡ some course
  -- the opening that it began with, which names A, D and the weight
  pub named : Opening
  pub later : List (Told rules)
  pub begun : course.told ≡ record { act = opening named; answer = done } ∷ later
  -- the strings, most recent symbol first: every symbol is below A
  pub strings : Sample → List ℕ
  pub fed : strings ≡ strings_of (asks rules course.told)
  pub below : (i : Sample) → Below named.symbols (strings i)
  -- "every frequency the true count": N(s,a) by place, strings and context oldest first
  pub true_counts : (i : Sample) (s : List ℕ) (a : ℕ) → (sitting_for named strings).count i s a ≡ N_placed (counted_from named) (reverse (strings i)) (reverse s) a

-- the report r at desk d is the one of the strings that the desk's own latest sitting was fed
pub record OfItsStrings (gs : List (Course rules)) (d : ℕ) (r : Reported) : Type 0 where
  pub its : ItsStrings gs d
  pub estimate : JointEstimate (sitting_for its.named its.strings) r
  -- "0 for symbols from A up"
  pub zero_above : ZeroFrom its.named.symbols r.rows

-- every accepted report among the calls cs, which answered os, is that of its sitting's own strings so far: `before` are the calls before it
abbrev pub OwnReports : List (Call rules) → List (Outcome Answer) → Type 0
OwnReports cs os =
    (before behind : List (Call rules)) (said saying : List (Outcome Answer)) (d sheet place : ℕ) (r : Reported) → length before ≡ length said
    → cs ≡ before ++ (at_desk d (asking (reporting sheet place)) ∷ behind) → os ≡ said ++ (answered (reported r) ∷ saying)
    → OfItsStrings (sittings rules [] (struck rules before said)) d r

-- in any run on a newly made store, every accepted report is that of its sitting's own strings so far
abbrev pub Demand2 : Type 0
Demand2 = (K : Making) (σ τ : List ℕ) (cs : List (Call rules)) (os : List (Outcome Answer)) → MadeNew K σ → Run σ cs os τ → OwnReports cs os

-- .. and the joint estimate of a sitting is one
abbrev pub OneEstimate : Type 0
OneEstimate = (x : Sitting) (q r : Reported) → 0 < x.symbols → JointEstimate x q → JointEstimate x r → q ≡ r

-- ---- DEMAND 3: the replay

-- on a second store, newly made of the same room, one sitting after another in order of opening: nothing is refused, every call answers as before
-- with the same rows, what the numbers stand for at the end is the same (the same desks are open, the same room is left), and every further call
-- answers alike; and each report of the run and of the replay is demand 2's
pub record Replayed (cs : List (Call rules)) (os os' : List (Outcome Answer)) (τ τ' : List ℕ) : Type 0 where
  pub alike : os' ≡ answers rules (serial rules (struck rules cs os))
  pub same_room : meaning τ' ≡ meaning τ
  pub next_alike : (υ υ' : List ℕ) (c : Call rules) (o o' : Outcome Answer) → Does τ c o υ → Does τ' c o' υ' → o' ≡ o
  -- the replay has the calls that were not struck out, none lost or doubled, those of each desk in their order, and the openings in theirs
  pub nothing_lost_holds : Perm (serial rules (struck rules cs os)) (struck rules cs os)
  pub order_kept : (d : ℕ) → calls_at rules d (serial rules (struck rules cs os)) ≡ calls_at rules d (struck rules cs os)
  pub openings_kept : openings rules (serial rules (struck rules cs os)) ≡ openings rules (struck rules cs os)
  pub own_reports : OwnReports cs os
  pub own_again : OwnReports (calls rules (serial rules (struck rules cs os))) os'

abbrev pub Demand3 : Type 0
Demand3 =
    (K : Making) (σ τ σ' τ' : List ℕ) (cs : List (Call rules)) (os os' : List (Outcome Answer)) → MadeNew K σ → Run σ cs os τ
    → MadeNew K σ' → Run σ' (calls rules (serial rules (struck rules cs os))) os' τ' → Replayed cs os os' τ τ'
