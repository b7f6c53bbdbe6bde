-- No two answers of the code say the same in the room's machine: so where an outcome is settled, the answer is. Assumes nothing.
use Prim.Native.Nat.{ℕ, ◌*◌}
use mathlib.Core.Path.{◌≡◌, refl, sym, ap, ◌∙◌}
use mathlib.Core.Bool.{cond}
use mathlib.Core.List.{List}
use lib.Dec.{eqb}
use lib.ListN.{length, drop}
use Rattle.numbers.specs.Limits.{row_width}
use Rattle.rows.proofs.Written.{rows_read}
use Rattle.replay.specs.Table.{Outcome, refused, answered}
use Rattle.rules.specs.Rules.{Answer, done, contexts_left, reported, point}
use Rattle.calls.specs.Refusals.{refusal_number, outcome_of, room_of, written_of, charted_of}
use Rattle.calls.specs.declared.Refusal.{Refusal}
use Rattle.calls.specs.declared.Refusal.TheVariants.{Unsound, NoSuchDesk, AlreadyOpen, NotOpen, OutsideLimits, BadReservation, NoRoom, NotOfSitting, SampleFull, PastReservation, SampleEmpty, SheetShort, WeightOutside, SampleShort}
use Rattle.calls.specs.declared.Reported.{Reported}
use Rattle.chart.specs.declared.Chart.{Chart}
use Rattle.std.specs.Prelude.{Result, Ok, Err}

-- ---- a refusal from its number
unfoldable refusal_by : ℕ → Refusal
refusal_by n =
    cond (eqb n 1) Unsound (cond (eqb n 2) NoSuchDesk (cond (eqb n 3) AlreadyOpen (cond (eqb n 4) NotOpen (cond (eqb n 5) OutsideLimits (cond (eqb n 6) BadReservation
    (cond (eqb n 7) NoRoom (cond (eqb n 8) NotOfSitting (cond (eqb n 9) SampleFull (cond (eqb n 10) PastReservation (cond (eqb n 11) SampleEmpty (cond (eqb n 12) SheetShort (cond (eqb n 20) WeightOutside SampleShort))))))))))))

back : (why : Refusal) → refusal_by (refusal_number why) ≡ why
unfolding refusal_by
back Unsound = refl
back NoSuchDesk = refl
back AlreadyOpen = refl
back NotOpen = refl
back OutsideLimits = refl
back BadReservation = refl
back NoRoom = refl
back NotOfSitting = refl
back SampleFull = refl
back PastReservation = refl
back SampleEmpty = refl
back SheetShort = refl
back WeightOutside = refl
back SampleShort = refl

-- THEOREM. No two refusals have one number
pub one_refusal : (x y : Refusal) → refusal_number x ≡ refusal_number y → x ≡ y
one_refusal x y e = sym (back x) ∙ ap refusal_by e ∙ back y

-- ---- an answer from its outcome: what the outcome has, or else a refusal
module _ {B : Type 0} (yes? : Answer → B) (no? : Refusal → B) where
  unfoldable by : Outcome Answer → B
  by (answered x) = yes? x
  by (refused n) = no? (refusal_by n)

  -- two answers that stand so to one outcome
  both : (f : B → Outcome Answer) → ((z : B) → by (f z) ≡ z) → (x y : B) → f x ≡ f y → x ≡ y
  both f h x y e = sym (h x) ∙ ap by e ∙ h y

unfoldable contexts_in : Answer → Result ℕ Refusal
contexts_in done = Ok 0
contexts_in (contexts_left n) = Ok n
contexts_in (reported x) = Ok 0
contexts_in (point x) = Ok 0

unfoldable rows_of : Answer → Result Reported Refusal
rows_of done = Err Unsound
rows_of (contexts_left n) = Err Unsound
rows_of (reported x) = Ok (record { rows = length x.rows; score = x.score })
rows_of (point x) = Err Unsound

unfoldable chart_in : Answer → Result Chart Refusal
chart_in done = Err Unsound
chart_in (contexts_left n) = Err Unsound
chart_in (reported x) = Err Unsound
chart_in (point x) = Ok x

-- THEOREM. Two answers with one outcome are one: of an opening, a feed, a closing or the end of a run ..
pub one_verdict : (x y : Result (Unit {0}) Refusal) → outcome_of x ≡ outcome_of y → x ≡ y
unfolding by
one_verdict = both (λ a. Ok tt) Err outcome_of says
  where
    says : (z : Result (Unit {0}) Refusal) → by (λ a. Ok tt) Err (outcome_of z) ≡ z
    says (Ok u) = refl
    says (Err why) = ap Err (back why)

-- .. of the room question ..
pub one_room : (x y : Result ℕ Refusal) → room_of x ≡ room_of y → x ≡ y
unfolding by contexts_in
one_room = both contexts_in Err room_of says
  where
    says : (z : Result ℕ Refusal) → by contexts_in Err (room_of z) ≡ z
    says (Ok n) = refl
    says (Err why) = ap Err (back why)

-- .. of a chart question ..
pub one_chart : (x y : Result Chart Refusal) → charted_of x ≡ charted_of y → x ≡ y
unfolding by chart_in
one_chart = both chart_in Err charted_of says
  where
    says : (z : Result Chart Refusal) → by chart_in Err (charted_of z) ≡ z
    says (Ok chart) = refl
    says (Err why) = ap Err (back why)

-- .. and of a report, whatever sheets the rows are read from
pub one_report : (x y : Result Reported Refusal) (place : ℕ) (sheet sheet' : List ℕ) → written_of x place sheet ≡ written_of y place sheet' → x ≡ y
unfolding by rows_of
one_report x y place sheet sheet' e = sym (says x sheet) ∙ ap (by rows_of Err) e ∙ says y sheet'
  where
    says : (z : Result Reported Refusal) (l : List ℕ) → by rows_of Err (written_of z place l) ≡ z
    says (Ok r) l = ap {B = Result Reported Refusal} (λ (k : ℕ). Ok (record { rows = k; score = r.score })) (sym (rows_read r.rows (drop (row_width * place) l)))
    says (Err why) l = ap Err (back why)
