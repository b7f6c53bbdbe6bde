-- Any number but 0 is a refusal's, which leaves the outputs. Assumes nothing.
use Prim.Native.Nat.{ℕ, suc}
use mathlib.Core.Path.{◌≡◌, sym, ap, subst, ◌∙◌}
use mathlib.Core.List.{List}
use native.Mathlib.Omega.{arith}
use lib.IntN.{ℤ}
use lib.Ieee.{Float}
use Rattle.replay.specs.Table.{Outcome, refused}
use Rattle.replay.specs.Machine.{Call, room_question}
use Rattle.rules.specs.Rules.{Answer, rules}
use Rattle.calls.specs.Refusals.{outcome_of, room_of, written_of, charted_of}
use Rattle.calls.specs.Promises.{Moves, Asks, Reports}
use Rattle.calls.specs.Run.{Runs}
use Rattle.std.specs.Prelude.{Result, Ok, Err}
use Rattle.calls.specs.declared.Refusal.{Refusal}
use Rattle.chart.specs.declared.Chart.{Chart}
use Rattle.calls.specs.declared.Reported as written
use Rattle.sitting_file.specs.Format.{read_of}
use Rattle.sitting_file.specs.Format.{Reading}
use Rattle.writing.specs.Writing.{WritesFile, writing_outcome}
use Rattle.salvage.specs.Salvage.{Saved, Salvages}
use Rattle.told.specs.Codes.{told_as, read_code}
use Rattle.told.specs.Outputs.{left_after, rows_after, score_after, shape_after, length_after, size_after, losses_after, seen_after, first_after, second_after, gap_after}
use Rattle.told.specs.Told.{MoveTold, RunTold, RoomTold, ReportTold, ReadTold, WriteTold, SalvageTold, ChartTold}
use Rattle.told.proofs.Numbers.{refused_by}

-- ---- an opening, a feed or a closing
module _ {s t : List ℕ} {c : Call rules} where
  pub move_refused : {n : ℕ} → MoveTold s c (suc n) t → Moves s c (refused (suc n)) t
  move_refused {n} m = subst (λ (o : Outcome Answer). Moves s c o t) (refused_by (outcome_of m.answer) n m.number) m.promise

-- ---- a run of feeds
module _ {s t symbols : List ℕ} {d k r : ℕ} where
  pub run_refused : {n : ℕ} → RunTold s d k symbols r (suc n) t → Runs s d k symbols r (refused (suc n)) t
  run_refused {n} m = subst (λ (o : Outcome Answer). Runs s d k symbols r o t) (refused_by (outcome_of m.ending) n m.number) m.promise

-- ---- the room question
module _ {s : List ℕ} {old left : ℕ} where
  pub room_refused : {n : ℕ} → RoomTold s (suc n) old left → Asks s room_question (refused (suc n)) × (left ≡ old)
  room_refused {n} m = go m.answer m.promise m.number m.output
    where
      go : (x : Result ℕ Refusal) → Asks s room_question (room_of x) → suc n ≡ told_as (room_of x) → left ≡ left_after x old → Asks s room_question (refused (suc n)) × (left ≡ old)
      go (Ok k) p e o = absurd (omega (arith, e))
      go (Err why) p e o = (subst (λ (k : ℕ). Asks s room_question (refused k)) (sym e) p, o)

-- ---- a report
module _ {s : List ℕ} {d place : ℕ} {before after : List ℕ} {old rows : ℕ} {was score : ℤ} where
  pub report_refused : {n : ℕ} → ReportTold s d place (suc n) before after old rows was score → Reports s d place (refused (suc n)) before after × (rows ≡ old) × (score ≡ was)
  report_refused {n} m = go m.answer m.promise m.number m.row_count m.its_score
    where
      go : (x : Result written.Reported Refusal) → Reports s d place (written_of x place after) before after → suc n ≡ told_as (written_of x place after) → rows ≡ rows_after x old → score ≡ score_after x was
          → Reports s d place (refused (suc n)) before after × (rows ≡ old) × (score ≡ was)
      go (Ok r) p e f g = absurd (omega (arith, e))
      go (Err why) p e f g = (subst (λ (k : ℕ). Reports s d place (refused k) before after) (sym e) p, f, g)

-- ---- a chart question
module _ {s : List ℕ} {d len code a old seen : ℕ} {first first' second second' gap gap' : Float} where
  pub chart_refused : {n : ℕ} → ChartTold s d len code a (suc n) old seen first first' second second' gap gap' → (seen ≡ old) × (first' ≡ first) × (second' ≡ second) × (gap' ≡ gap)
  chart_refused {n} m = go m.answer m.number m.seen_by m.its_first m.its_second m.its_gap
    where
      go : (x : Result Chart Refusal) → suc n ≡ told_as (charted_of x) → seen ≡ seen_after x old → first' ≡ first_after x first → second' ≡ second_after x second → gap' ≡ gap_after x gap
          → (seen ≡ old) × (first' ≡ first) × (second' ≡ second) × (gap' ≡ gap)
      go (Ok t) e f g h k = absurd (omega (arith, e))
      go (Err why) e f g h k = (f, g, h, k)

-- ---- a file
module _ {bytes old new : List ℕ} where
  pub read_refused : {n : ℕ} → ReadTold bytes (suc n) old new → new ≡ old
  read_refused {n} m = go (read_of bytes) m.number m.output
    where
      go : (x : Reading) → suc n ≡ read_code x → new ≡ shape_after x old → new ≡ old
      go (Ok x) e f = absurd (omega (arith, e))
      go (Err why) e f = f

-- ---- a file that is not written: the bytes and the length stay
module _ {A D : ℕ} {xs ys before after : List ℕ} {old size : ℕ} where
  pub write_refused : {n : ℕ} → WriteTold A D xs ys before (suc n) after old size → WritesFile A D xs ys before (refused (suc n)) after × (after ≡ before) × (size ≡ old)
  write_refused {n} m =
      let o = writing_outcome m.answer in
      let e : o ≡ refused (suc n) = refused_by o n m.number in
      (subst (λ (q : Outcome ℕ). WritesFile A D xs ys before q after) e m.promise, m.promise.refused_stays (suc n) e, m.output ∙ ap (λ (q : Outcome ℕ). length_after q old) e)

-- ---- a file that is not salvaged: the bytes, the length and the five numbers stay
module _ {damaged before after : List ℕ} {old size : ℕ} {was losses : List ℕ} where
  pub salvage_refused : {n : ℕ} → SalvageTold damaged before (suc n) after old size was losses → Salvages damaged before (refused (suc n)) after × (after ≡ before) × (size ≡ old) × (losses ≡ was)
  salvage_refused {n} m =
      let o = m.answer in
      let e : o ≡ refused (suc n) = refused_by o n m.number in (
        subst (λ (q : Outcome Saved). Salvages damaged before q after) e m.promise,
        m.promise.refused_stays (suc n) e,
        m.output ∙ ap (λ (q : Outcome Saved). size_after q old) e,
        m.lost ∙ ap (λ (q : Outcome Saved). losses_after q was) e,
      )
