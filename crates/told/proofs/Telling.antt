-- The promise for C from the call's own promise, for each way that its answer is taken apart. Assumes nothing.
use Prim.Native.Nat.{ℕ}
use mathlib.Core.Path.{◌≡◌, sym, ap, ◌∙◌}
use mathlib.Core.List.{List, [], ◌∷◌}
use lib.IntN.{ℤ}
use lib.Ieee.{Float}
use Rattle.replay.specs.Machine.{at_desk, asking, room_question}
use Rattle.rules.specs.Rules.{charting}
use Rattle.calls.specs.Refusals.{refusal_number, room_of, written_of, charted_of}
use Rattle.calls.specs.Promises.{Asks, Reports}
use Rattle.calls.specs.declared.Refusal.{Refusal}
use Rattle.chart.specs.declared.Chart.{Chart}
use Rattle.std.specs.Prelude.{Result, Ok, Err}
use Rattle.calls.specs.declared.Reported as written
use Rattle.sitting_file.specs.Format.{read_of}
use Rattle.sitting_file.specs.Format as format
use Rattle.sitting_file.specs.declared.Refusal as file
use Rattle.sitting_file.specs.declared.Shape.{Shape}
use Rattle.sitting_file.specs.Format.{Reading}
use Rattle.writing.specs.Writing.{WritesFile, writing_outcome}
use Rattle.writing.specs.Writing as writing
use Rattle.writing.specs.declared.Refusal as writer
use Rattle.writing.specs.Writing.{Writing}
use Rattle.told.specs.Codes.{told_as, read_code}
use Rattle.told.specs.Outputs.{left_after, rows_after, score_after, shape_after, length_after, seen_in, first_in, second_in, gap_in, seen_after, first_after, second_after, gap_after}
use Rattle.told.specs.Told.{RoomTold, ReportTold, ReadTold, WriteTold, ChartTold}
use Rattle.std.specs.Prelude.{MatchResult}
use Rattle.store.specs.Making.{refusal_of}
use Rattle.store.specs.Making as making
use Rattle.store.specs.declared.Refusal as maker
use Rattle.calls.specs.Refusals.{outcome_of}

-- ---- THEOREM. What `code_of` promises is the number of a move's answer, or of how a run of feeds ended ..
pub call_code : (answer : Result (Unit {0}) Refusal) (r : ℕ) → MatchResult answer (λ u. r ≡ 0) (λ why. r ≡ refusal_number why) → r ≡ told_as (outcome_of answer)
call_code (Ok u) r e = e
call_code (Err why) r e = e

-- .. and of a making's
pub making_code : (answer : Result (Unit {0}) maker.Refusal) (r : ℕ) → MatchResult answer (λ u. r ≡ 0) (λ why. r ≡ making.refusal_number why) → r ≡ refusal_of answer
making_code (Ok u) r e = e
making_code (Err why) r e = e

-- ---- the room question
module _ {s : List ℕ} {old : ℕ} (x : Result ℕ Refusal) (p : Asks s room_question (room_of x)) where
  pub room_refused : {why : Refusal} {r : ℕ} → x ≡ Err why → r ≡ refusal_number why → RoomTold s r old old
  room_refused e n = record {
    answer = x;
    promise = p;
    number = n ∙ sym (ap (λ (a : Result ℕ Refusal). told_as (room_of a)) e);
    output = sym (ap (λ (a : Result ℕ Refusal). left_after a old) e);
  }

  pub room_told : {left : ℕ} → x ≡ Ok left → RoomTold s 0 old left
  room_told e = record {
    answer = x;
    promise = p;
    number = sym (ap (λ (a : Result ℕ Refusal). told_as (room_of a)) e);
    output = sym (ap (λ (a : Result ℕ Refusal). left_after a old) e);
  }

-- ---- a report
module _ {s : List ℕ} {d place : ℕ} {before after : List ℕ} {rows : ℕ} {score : ℤ} (x : Result written.Reported Refusal) (p : Reports s d place (written_of x place after) before after) where
  pub report_refused : {why : Refusal} {r : ℕ} → x ≡ Err why → r ≡ refusal_number why → ReportTold s d place r before after rows rows score score
  report_refused e n = record {
    answer = x;
    promise = p;
    number = n ∙ sym (ap (λ (a : Result written.Reported Refusal). told_as (written_of a place after)) e);
    row_count = sym (ap (λ (a : Result written.Reported Refusal). rows_after a rows) e);
    its_score = sym (ap (λ (a : Result written.Reported Refusal). score_after a score) e);
  }

  -- `stored` is what was written of the value
  pub report_told : {r : written.Reported} {stored : ℤ} → x ≡ Ok r → stored ≡ r.score → ReportTold s d place 0 before after rows r.rows score stored
  report_told e z = record {
    answer = x;
    promise = p;
    number = sym (ap (λ (a : Result written.Reported Refusal). told_as (written_of a place after)) e);
    row_count = sym (ap (λ (a : Result written.Reported Refusal). rows_after a rows) e);
    its_score = z ∙ sym (ap (λ (a : Result written.Reported Refusal). score_after a score) e);
  }

-- ---- a file
module _ {bytes old : List ℕ} (x : Reading) (p : x ≡ read_of bytes) where
  pub read_refused : {why : file.Refusal} {r : ℕ} → x ≡ Err why → r ≡ format.refusal_number why → ReadTold bytes r old old
  read_refused e n =
      let e' = sym p ∙ e in
      record { number = n ∙ sym (ap read_code e'); output = sym (ap (λ (a : Reading). shape_after a old) e') }

  pub read_told : {shape : Shape} → x ≡ Ok shape → ReadTold bytes 0 old (shape.alphabet ∷ shape.depth ∷ shape.first ∷ shape.second ∷ [])
  read_told e =
      let e' = sym p ∙ e in
      record { number = sym (ap read_code e'); output = sym (ap (λ (a : Reading). shape_after a old) e') }

-- ---- a file written
module _ {A D : ℕ} {xs ys before after : List ℕ} {old : ℕ} (x : Writing) (p : WritesFile A D xs ys before (writing_outcome x) after) where
  pub write_refused : {why : writer.Refusal} {r : ℕ} → x ≡ Err why → r ≡ writing.refusal_number why → WriteTold A D xs ys before r after old old
  write_refused e n = record {
    answer = x;
    promise = p;
    number = n ∙ sym (ap (λ (a : Writing). told_as (writing_outcome a)) e);
    output = sym (ap (λ (a : Writing). length_after (writing_outcome a) old) e);
  }

  pub write_told : {size : ℕ} → x ≡ Ok size → WriteTold A D xs ys before 0 after old size
  write_told e = record {
    answer = x;
    promise = p;
    number = sym (ap (λ (a : Writing). told_as (writing_outcome a)) e);
    output = sym (ap (λ (a : Writing). length_after (writing_outcome a) old) e);
  }

-- ---- a chart question
module _ {s : List ℕ} {d len code a seen : ℕ} {first second gap : Float} (x : Result Chart Refusal) (p : Asks s (at_desk d (asking (charting len code a))) (charted_of x)) where
  pub chart_refused : {why : Refusal} {r : ℕ} → x ≡ Err why → r ≡ refusal_number why → ChartTold s d len code a r seen seen first first second second gap gap
  chart_refused e n = record {
    answer = x;
    promise = p;
    number = n ∙ sym (ap (λ (y : Result Chart Refusal). told_as (charted_of y)) e);
    seen_by = sym (ap (λ (y : Result Chart Refusal). seen_after y seen) e);
    its_first = sym (ap (λ (y : Result Chart Refusal). first_after y first) e);
    its_second = sym (ap (λ (y : Result Chart Refusal). second_after y second) e);
    its_gap = sym (ap (λ (y : Result Chart Refusal). gap_after y gap) e);
  }

  -- the outputs of a chart t
  pub chart_told : {y : Chart} (t : Chart) → x ≡ Ok y → y ≡ t → ChartTold s d len code a 0 seen (seen_in t) first (first_in t first) second (second_in t second) gap (gap_in t gap)
  chart_told t e f =
      let e' : x ≡ Ok t = e ∙ ap Ok f in
      record {
        answer = x;
        promise = p;
        number = sym (ap (λ (y : Result Chart Refusal). told_as (charted_of y)) e');
        seen_by = sym (ap (λ (y : Result Chart Refusal). seen_after y seen) e');
        its_first = sym (ap (λ (y : Result Chart Refusal). first_after y first) e');
        its_second = sym (ap (λ (y : Result Chart Refusal). second_after y second) e');
        its_gap = sym (ap (λ (y : Result Chart Refusal). gap_after y gap) e');
      }
