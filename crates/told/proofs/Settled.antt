-- Whatever the promises for C allow has one number and one set of outputs: the questions, the reader, the writer and the salvage. Assumes nothing.
use Prim.Native.Nat.{ℕ, ◌*◌}
use mathlib.Core.Path.{◌≡◌, refl, sym, ap, ◌∙◌}
use mathlib.Core.List.{List}
use lib.ListN.{length, drop}
use lib.IntN.{ℤ}
use lib.Ieee.{Float}
use Rattle.replay.specs.Table.{Outcome, refused, answered}
use Rattle.replay.specs.Machine.{at_desk, asking, room_question}
use Rattle.numbers.specs.Limits.{row_width}
use Rattle.rows.proofs.Written.{rows_read}
use Rattle.rules.specs.Rules.{Answer, done, contexts_left, reported, point, charting}
use Rattle.chart.specs.declared.Chart.{Chart}
use Rattle.calls.specs.Refusals.{room_of, written_of, charted_of}
use Rattle.calls.proofs.Settled.{asks_settled, reports_settled}
use Rattle.std.specs.Prelude.{Result, Ok, Err}
use Rattle.calls.specs.declared.Refusal.{Refusal}
use Rattle.calls.specs.declared.Reported as written
use Rattle.writing.specs.Writing.{writing_outcome}
use Rattle.writing.proofs.Settled.{writing_settled}
use Rattle.salvage.specs.Salvage.{Saved}
use Rattle.salvage.proofs.Settled.{salvage_settled}
use Rattle.told.specs.Codes.{told_as}
use Rattle.told.specs.Outputs.{left_after, rows_after, score_after, length_after, size_after, losses_after, seen_in, first_in, second_in, gap_in, seen_after, first_after, second_after, gap_after}
use Rattle.told.specs.Told.{RoomTold, ReportTold, ReadTold, WriteTold, SalvageTold, ChartTold}

-- ---- questions: an output is what the outcome has for it, or what stood there
module _ {B : Type 0} where
  unfoldable from : (Answer → B → B) → Outcome Answer → B → B
  from f (answered x) old = f x old
  from f (refused n) old = old

  unfoldable charted : (Chart → B → B) → Answer → B → B
  charted f done old = old
  charted f (contexts_left n) old = old
  charted f (reported x) old = old
  charted f (point x) old = f x old

unfoldable left_in : Answer → ℕ → ℕ
left_in done old = old
left_in (contexts_left n) old = n
left_in (reported x) old = old
left_in (point x) old = old

unfoldable rows_in : Answer → ℕ → ℕ
rows_in done old = old
rows_in (contexts_left n) old = old
rows_in (reported x) old = length x.rows
rows_in (point x) old = old

unfoldable score_in : Answer → ℤ → ℤ
score_in done old = old
score_in (contexts_left n) old = old
score_in (reported x) old = x.score
score_in (point x) old = old

left_from : (x : Result ℕ Refusal) (old : ℕ) → left_after x old ≡ from left_in (room_of x) old
unfolding from left_in
left_from (Ok n) old = refl
left_from (Err why) old = refl

rows_from_lem : (x : Result written.Reported Refusal) (place : ℕ) (sheet : List ℕ) (old : ℕ) → rows_after x old ≡ from rows_in (written_of x place sheet) old
unfolding from rows_in
rows_from_lem (Ok r) place sheet old = rows_read r.rows (drop (row_width * place) sheet)
rows_from_lem (Err why) place sheet old = refl

score_from : (x : Result written.Reported Refusal) (place : ℕ) (sheet : List ℕ) (old : ℤ) → score_after x old ≡ from score_in (written_of x place sheet) old
unfolding from score_in
score_from (Ok r) place sheet old = refl
score_from (Err why) place sheet old = refl

seen_from : (x : Result Chart Refusal) (old : ℕ) → seen_after x old ≡ from (charted (λ (t : Chart) (was : ℕ). seen_in t)) (charted_of x) old
unfolding from charted
seen_from (Ok t) old = refl
seen_from (Err why) old = refl

first_from : (x : Result Chart Refusal) (old : Float) → first_after x old ≡ from (charted first_in) (charted_of x) old
unfolding from charted
first_from (Ok t) old = refl
first_from (Err why) old = refl

second_from : (x : Result Chart Refusal) (old : Float) → second_after x old ≡ from (charted second_in) (charted_of x) old
unfolding from charted
second_from (Ok t) old = refl
second_from (Err why) old = refl

gap_from : (x : Result Chart Refusal) (old : Float) → gap_after x old ≡ from (charted gap_in) (charted_of x) old
unfolding from charted
gap_from (Ok t) old = refl
gap_from (Err why) old = refl

-- two outputs that stand so to one outcome
both : {B : Type 0} (f : Answer → B → B) (old : B) {o p : Outcome Answer} {x y x' y' : B} → o ≡ p → x ≡ x' → x' ≡ from f o old → y ≡ y' → y' ≡ from f p old → x ≡ y
both f old e a b c d = a ∙ b ∙ ap (λ (o : Outcome Answer). from f o old) e ∙ sym (c ∙ d)

pub room_one : {s : List ℕ} {r q old x y : ℕ} → RoomTold s r old x → RoomTold s q old y → (r ≡ q) × (x ≡ y)
room_one {s} {r} {q} {old} m n =
    let e = asks_settled s room_question (room_of m.answer) (room_of n.answer) m.promise n.promise in
    (m.number ∙ ap told_as e ∙ sym n.number, both left_in old e m.output (left_from m.answer old) n.output (left_from n.answer old))

-- a report has one number, one sheet, one row count and one score
pub report_one : {s : List ℕ} {d place r q : ℕ} {before x y : List ℕ} {old rows rows' : ℕ} {was score score' : ℤ}
    → ReportTold s d place r before x old rows was score → ReportTold s d place q before y old rows' was score' → (r ≡ q) × (x ≡ y) × (rows ≡ rows') × (score ≡ score')
report_one {s} {d} {place} {r} {q} {before} {x} {y} {old} {rows} {rows'} {was} m n =
    let e = reports_settled s d place (written_of m.answer place x) (written_of n.answer place y) before x y m.promise n.promise in (
      m.number ∙ ap told_as e.0 ∙ sym n.number,
      e.1,
      both rows_in old e.0 m.row_count (rows_from_lem m.answer place x old) n.row_count (rows_from_lem n.answer place y old),
      both score_in was e.0 m.its_score (score_from m.answer place x was) n.its_score (score_from n.answer place y was),
    )

pub read_one : {bytes : List ℕ} {r q : ℕ} {old x y : List ℕ} → ReadTold bytes r old x → ReadTold bytes q old y → (r ≡ q) × (x ≡ y)
read_one m n = (m.number ∙ sym n.number, m.output ∙ sym n.output)

-- the bytes too
pub write_one : {A D : ℕ} {xs ys before : List ℕ} {r q : ℕ} {x y : List ℕ} {old size size' : ℕ}
    → WriteTold A D xs ys before r x old size → WriteTold A D xs ys before q y old size' → (r ≡ q) × (x ≡ y) × (size ≡ size')
write_one {A} {D} {xs} {ys} {before} {r} {q} {x} {y} {old} m n =
    let e = writing_settled A D xs ys before (writing_outcome m.answer) (writing_outcome n.answer) x y m.promise n.promise in
    (m.number ∙ ap told_as e.0 ∙ sym n.number, e.1, m.output ∙ ap (λ (o : Outcome ℕ). length_after o old) e.0 ∙ sym n.output)

-- the five numbers too
pub salvage_one : {damaged before : List ℕ} {r q : ℕ} {x y : List ℕ} {old size size' : ℕ} {was losses losses' : List ℕ}
    → SalvageTold damaged before r x old size was losses → SalvageTold damaged before q y old size' was losses' → (r ≡ q) × (x ≡ y) × (size ≡ size') × (losses ≡ losses')
salvage_one {damaged} {before} {r} {q} {x} {y} {old} {size} {size'} {was} m n =
    let e = salvage_settled damaged before m.answer n.answer x y m.promise n.promise in (
      m.number ∙ ap told_as e.0 ∙ sym n.number,
      e.1,
      m.output ∙ ap (λ (o : Outcome Saved). size_after o old) e.0 ∙ sym n.output,
      m.lost ∙ ap (λ (o : Outcome Saved). losses_after o was) e.0 ∙ sym n.lost,
    )

-- what a chart question leaves: its number, which samples saw the context, and the three outputs
module _ {s : List ℕ} {d len code a r q old seen seen' : ℕ} {u first first' v second second' w gap gap' : Float} where
  pub chart_one : ChartTold s d len code a r old seen u first v second w gap → ChartTold s d len code a q old seen' u first' v second' w gap'
      → (r ≡ q) × (seen ≡ seen') × (first ≡ first') × (second ≡ second') × (gap ≡ gap')
  chart_one m n =
      let e = asks_settled s (at_desk d (asking (charting len code a))) (charted_of m.answer) (charted_of n.answer) m.promise n.promise in (
        m.number ∙ ap told_as e ∙ sym n.number,
        both (charted (λ (t : Chart) (was : ℕ). seen_in t)) old e m.seen_by (seen_from m.answer old) n.seen_by (seen_from n.answer old),
        both (charted first_in) u e m.its_first (first_from m.answer u) n.its_first (first_from n.answer u),
        both (charted second_in) v e m.its_second (second_from m.answer v) n.its_second (second_from n.answer v),
        both (charted gap_in) w e m.its_gap (gap_from m.answer w) n.its_gap (gap_from n.answer w),
      )
