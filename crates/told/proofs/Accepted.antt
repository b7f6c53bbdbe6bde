-- A 0 always means accepted. Assumes nothing.
use Prim.Native.Nat.{ℕ}
use mathlib.Core.Path.{◌≡◌, refl, sym, ap₂, subst}
use mathlib.Core.List.{List, [], ◌∷◌}
use native.Mathlib.Omega.{arith}
use lib.IntN.{ℤ}
use lib.Ieee.{Float}
use Rattle.replay.specs.Table.{answered}
use Rattle.replay.specs.Machine.{Call, at_desk, asking, room_question}
use Rattle.rules.specs.Rules.{done, contexts_left, point, charting, rules}
use Rattle.store.specs.Making.{Makes, refusal_of}
use Rattle.calls.specs.Refusals.{outcome_of, room_of, written_of, charted_of}
use Rattle.calls.specs.Promises.{Moves, Asks, Reports}
use Rattle.calls.specs.Run.{Runs}
use Rattle.chart.specs.declared.Chart.{Chart}
use Rattle.std.specs.Prelude.{Result, Ok, Err}
use Rattle.calls.specs.declared.Refusal.{Refusal}
use Rattle.store.specs.declared.Refusal as maker
use Rattle.store.specs.declared.Refusal.TheVariants as making
use Rattle.calls.specs.declared.Reported as written
use Rattle.sitting_file.specs.Format.{read_of}
use Rattle.sitting_file.specs.declared.Shape.{Shape}
use Rattle.sitting_file.specs.Format.{Reading}
use Rattle.writing.specs.Writing.{WritesFile, writing_outcome}
use Rattle.writing.specs.Writing.{Writing}
use Rattle.told.specs.Codes.{told_as, read_code}
use Rattle.told.specs.Outputs.{left_after, rows_after, score_after, shape_after, length_after, seen_in, first_in, second_in, gap_in, seen_after, first_after, second_after, gap_after}
use Rattle.told.specs.Told.{MakeTold, MoveTold, RunTold, RoomTold, ReportTold, ReadTold, WriteTold, ChartTold}
use Rattle.told.proofs.Numbers.{fault_above_zero, writing_above_zero, not_refused}

-- ---- a making
pub made_accepted : {K : ℕ} {s t : List ℕ} → MakeTold K s 0 t → Makes K s (Ok tt) t
made_accepted {K} {s} {t} m = go m.answer m.promise m.number
  where
    go : (x : Result (Unit {0}) maker.Refusal) → Makes K s x t → 0 ≡ refusal_of x → Makes K s (Ok tt) t
    go (Ok tt) p e = p
    go (Err making.RoomOutside) p e = absurd (omega (arith, e))
    go (Err making.StoreShort) p e = absurd (omega (arith, e))

-- ---- an opening, a feed or a closing
module _ {s t : List ℕ} {c : Call rules} where
  pub move_accepted : MoveTold s c 0 t → Moves s c (answered done) t
  move_accepted m = go m.answer m.promise m.number
    where
      go : (x : Result (Unit {0}) Refusal) → Moves s c (outcome_of x) t → 0 ≡ told_as (outcome_of x) → Moves s c (answered done) t
      go (Ok tt) p e = p
      go (Err why) p e = not_refused why e

-- ---- a run of feeds
module _ {s t symbols : List ℕ} {d k r : ℕ} where
  pub run_whole : RunTold s d k symbols r 0 t → Runs s d k symbols r (answered done) t
  run_whole m = go m.ending m.promise m.number
    where
      go : (x : Result (Unit {0}) Refusal) → Runs s d k symbols r (outcome_of x) t → 0 ≡ told_as (outcome_of x) → Runs s d k symbols r (answered done) t
      go (Ok tt) p e = p
      go (Err why) p e = not_refused why e

-- ---- the room question
module _ {s : List ℕ} {old left : ℕ} where
  pub room_accepted : RoomTold s 0 old left → Asks s room_question (answered (contexts_left left))
  room_accepted m = go m.answer m.promise m.number m.output
    where
      go : (x : Result ℕ Refusal) → Asks s room_question (room_of x) → 0 ≡ told_as (room_of x) → left ≡ left_after x old → Asks s room_question (answered (contexts_left left))
      go (Ok n) p e o = subst (λ (k : ℕ). Asks s room_question (answered (contexts_left k))) (sym o) p
      go (Err why) p e o = not_refused why e

-- ---- a report
module _ {s : List ℕ} {d place : ℕ} {before after : List ℕ} {old rows : ℕ} {was score : ℤ} where
  -- `rows` rows are on the sheet from row `place` on
  pub report_accepted : ReportTold s d place 0 before after old rows was score → Reports s d place (written_of (Ok (record { rows = rows; score = score })) place after) before after
  report_accepted m = go m.answer m.promise m.number m.row_count m.its_score
    where
      go : (x : Result written.Reported Refusal) → Reports s d place (written_of x place after) before after → 0 ≡ told_as (written_of x place after) → rows ≡ rows_after x old → score ≡ score_after x was
          → Reports s d place (written_of (Ok (record { rows = rows; score = score })) place after) before after
      go (Ok r) p e f g =
          subst (λ (x : Result written.Reported Refusal). Reports s d place (written_of x place after) before after) (sym (ap₂ {C = Result written.Reported Refusal} (λ (k : ℕ) (z : ℤ). Ok (record { rows = k; score = z })) f g)) p
      go (Err why) p e f g = not_refused why e

-- ---- a chart question: the chart that was answered, and its outputs
pub record Charted (s : List ℕ) (d len code a seen : ℕ) (first first' second second' gap gap' : Float) : Type 0 where
  pub chart : Chart
  pub asks : Asks s (at_desk d (asking (charting len code a))) (answered (point chart))
  pub seen_by : seen ≡ seen_in chart
  pub its_first : first' ≡ first_in chart first
  pub its_second : second' ≡ second_in chart second
  pub its_gap : gap' ≡ gap_in chart gap

module _ {s : List ℕ} {d len code a old seen : ℕ} {first first' second second' gap gap' : Float} where
  pub chart_accepted : ChartTold s d len code a 0 old seen first first' second second' gap gap' → Charted s d len code a seen first first' second second' gap gap'
  chart_accepted m = go m.answer m.promise m.number m.seen_by m.its_first m.its_second m.its_gap
    where
      go : (x : Result Chart Refusal) → Asks s (at_desk d (asking (charting len code a))) (charted_of x) → 0 ≡ told_as (charted_of x)
          → seen ≡ seen_after x old → first' ≡ first_after x first → second' ≡ second_after x second → gap' ≡ gap_after x gap → Charted s d len code a seen first first' second second' gap gap'
      go (Ok t) p e f g h k = record { chart = t; asks = p; seen_by = f; its_first = g; its_second = h; its_gap = k }
      go (Err why) p e f g h k = not_refused why e

-- ---- a file: what it announces
pub record Announced (bytes new : List ℕ) : Type 0 where
  pub shape : Shape
  pub accepted : read_of bytes ≡ Ok shape
  pub output : new ≡ shape.alphabet ∷ shape.depth ∷ shape.first ∷ shape.second ∷ []

module _ {bytes old new : List ℕ} where
  pub read_accepted : ReadTold bytes 0 old new → Announced bytes new
  read_accepted m = go (read_of bytes) refl m.number m.output
    where
      go : (x : Reading) → read_of bytes ≡ x → 0 ≡ read_code x → new ≡ shape_after x old → Announced bytes new
      go (Ok x) p e f = record { shape = x; accepted = p; output = f }
      go (Err why) p e f = absurd (omega (arith, fault_above_zero why, e))

-- ---- a file written: its length was put out
module _ {A D : ℕ} {xs ys before after : List ℕ} {old size : ℕ} where
  pub write_accepted : WriteTold A D xs ys before 0 after old size → WritesFile A D xs ys before (answered size) after
  write_accepted m = go m.answer m.promise m.number m.output
    where
      go : (x : Writing) → WritesFile A D xs ys before (writing_outcome x) after → 0 ≡ told_as (writing_outcome x) → size ≡ length_after (writing_outcome x) old
          → WritesFile A D xs ys before (answered size) after
      go (Ok n) p e f = subst (λ (k : ℕ). WritesFile A D xs ys before (answered k) after) (sym f) p
      go (Err why) p e f = absurd (omega (arith, writing_above_zero why, e))
