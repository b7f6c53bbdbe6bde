-- What each function for C promises: there is an answer of which the call's own promise holds, r is that answer's number, and the outputs
-- are that answer's, or as before where it is a refusal. Assumes nothing.
use Rattle.std.specs.Prelude.{ℕ, ◌≡◌, List, ℤ, Float}
use Rattle.replay.specs.Table.{Outcome}
use Rattle.replay.specs.Machine.{Call, at_desk, asking, room_question}
use Rattle.rules.specs.Rules.{rules, charting}
use Rattle.store.specs.Making.{Makes, refusal_of}
use Rattle.calls.specs.Refusals.{outcome_of, room_of, written_of, charted_of}
use Rattle.calls.specs.Promises.{Moves, Asks, Reports}
use Rattle.calls.specs.Run.{Runs}
use Rattle.std.specs.Prelude.{Result}
use Rattle.calls.specs.declared.Refusal.{Refusal}
use Rattle.store.specs.declared.Refusal as making
use Rattle.chart.specs.declared.Chart.{Chart}
use Rattle.calls.specs.declared.Reported as written
use Rattle.sitting_file.specs.Format.{read_of}
use Rattle.writing.specs.Writing.{Writing, WritesFile, writing_outcome}
use Rattle.salvage.specs.Salvage.{Saved, Salvages}
use Rattle.told.specs.Codes.{told_as, read_code}
use Rattle.told.specs.Outputs.{left_after, rows_after, score_after, shape_after, length_after, size_after, losses_after, seen_after, first_after, second_after, gap_after}

-- a making of room K with the numbers `before`
pub record MakeTold (K : ℕ) (before : List ℕ) (r : ℕ) (after : List ℕ) : Type 0 where
  pub answer : Result (Unit {0}) making.Refusal
  pub promise : Makes K before answer after
  pub number : r ≡ refusal_of answer

-- an opening, a feed or a closing
pub record MoveTold (before : List ℕ) (c : Call rules) (r : ℕ) (after : List ℕ) : Type 0 where
  pub answer : Result (Unit {0}) Refusal
  pub promise : Moves before c (outcome_of answer) after
  pub number : r ≡ told_as (outcome_of answer)

-- a run of feeds, of which r were accepted: `why` is 0, or the refusal that the next one got
pub record RunTold (before : List ℕ) (d k : ℕ) (symbols : List ℕ) (r why : ℕ) (after : List ℕ) : Type 0 where
  pub ending : Result (Unit {0}) Refusal
  pub promise : Runs before d k symbols r (outcome_of ending) after
  pub number : why ≡ told_as (outcome_of ending)

-- the room question
pub record RoomTold (store : List ℕ) (r left left' : ℕ) : Type 0 where
  pub answer : Result ℕ Refusal
  pub promise : Asks store room_question (room_of answer)
  pub number : r ≡ told_as (room_of answer)
  pub output : left' ≡ left_after answer left

-- a report on desk d from row `place` on
pub record ReportTold (store : List ℕ) (d place r : ℕ) (sheet sheet' : List ℕ) (rows rows' : ℕ) (score score' : ℤ) : Type 0 where
  pub answer : Result written.Reported Refusal
  pub promise : Reports store d place (written_of answer place sheet') sheet sheet'
  pub number : r ≡ told_as (written_of answer place sheet')
  pub row_count : rows' ≡ rows_after answer rows
  pub its_score : score' ≡ score_after answer score

-- a sitting file that is read
pub record ReadTold (file : List ℕ) (r : ℕ) (shape shape' : List ℕ) : Type 0 where
  pub number : r ≡ read_code (read_of file)
  pub output : shape' ≡ shape_after (read_of file) shape

-- the file of A, D and two samples, written into the bytes `before`; `size` stood where its length is put, `size'` stands there after
pub record WriteTold (A D : ℕ) (xs ys before : List ℕ) (r : ℕ) (after : List ℕ) (size size' : ℕ) : Type 0 where
  pub answer : Writing
  pub promise : WritesFile A D xs ys before (writing_outcome answer) after
  pub number : r ≡ told_as (writing_outcome answer)
  pub output : size' ≡ length_after (writing_outcome answer) size

-- a damaged file salvaged into the bytes `before`; `size` and `losses` stood where the saved file's length and the five numbers are put
pub record SalvageTold (damaged before : List ℕ) (r : ℕ) (after : List ℕ) (size size' : ℕ) (losses losses' : List ℕ) : Type 0 where
  pub answer : Outcome Saved
  pub promise : Salvages damaged before answer after
  pub number : r ≡ told_as answer
  pub output : size' ≡ size_after answer size
  pub lost : losses' ≡ losses_after answer losses

-- a chart question
pub record ChartTold (store : List ℕ) (d len code a r seen seen' : ℕ) (first first' second second' gap gap' : Float) : Type 0 where
  pub answer : Result Chart Refusal
  pub promise : Asks store (at_desk d (asking (charting len code a))) (charted_of answer)
  pub number : r ≡ told_as (charted_of answer)
  pub seen_by : seen' ≡ seen_after answer seen
  pub its_first : first' ≡ first_after answer first
  pub its_second : second' ≡ second_after answer second
  pub its_gap : gap' ≡ gap_after answer gap
