-- What a report on an open desk answers, as the code has it. Assumes nothing.
use Prim.Native.Nat.{ℕ, ◌+◌, ◌*◌, ◌/◌, ◌≤◌, ◌<◌}
use native.Mathlib.Omega.{arith}
use mathlib.Core.Path.{◌≡◌, sym, ap, ap₂, subst, ◌∙◌}
use mathlib.Core.List.{List}
use lib.ListN.{length, drop}
use lib.IntN.{ℤ, pos, neg_ℤ}
use Rattle.contexts.specs.Sitting.{first, second}
use Rattle.estimate.proofs.Integers.{minus}
use Rattle.estimate.proofs.Optimal.{score_estimate}
use Rattle.numbers.specs.Limits.{row_width}
use Rattle.rows.specs.Rows.{Row, report_of, read_rows}
use Rattle.replay.specs.Room.{opened}
use Rattle.replay.specs.Table.{refused, answered}
use Rattle.store.specs.Layout.{depth_at, size_at}
use Rattle.store.specs.Meaning.{opening_at, progress_at, sitting_at, meaning}
use Rattle.store.proofs.Fitting.{desk_opened}
use Rattle.weighing.specs.declared.Desk.{Desk}
use Rattle.weighing.specs.declared.Least.{Least}
use Rattle.rules.specs.Report.{Reported, report}
use Rattle.rules.specs.Rules.{reported}
use Rattle.calls.specs.Promises.{with_rows, Reports}
use Rattle.report.specs.Desk.{CanReportOn, WeighedDesk}
use Rattle.calls.proofs.Reporting.{sheet_short, rows_told, reports_refused, reports_rows, rows_back}
use Rattle.report.proofs.Writing.{all_fit, from_row}

module _ (s : List ℕ) (k : Desk) (c : CanReportOn s k) (place : ℕ) (sheet : List ℕ) where
  at_desk_holds : (meaning s).at k.number ≡ opened (opening_at s k.number) (progress_at s k.number)
  unfolding meaning
  at_desk_holds = desk_opened s k.number c.at_open

  long_first : depth_at s k.number < size_at s k.number first
  long_first = omega (arith, c.long_first, ap (λ (x : Desk). x.depth) c.is_desk, ap (λ (x : Desk). x.n) c.is_desk)

  long_second : depth_at s k.number < size_at s k.number second
  long_second = omega (arith, c.long_second, ap (λ (x : Desk). x.depth) c.is_desk, ap (λ (x : Desk). x.m) c.is_desk)

  module _ (kept : List ℕ) (r : Least) (w : WeighedDesk s k.number kept r) where
    pub short_told : length sheet / row_width < place + r.rows → Reports s k.number place (refused 12) sheet sheet
    short_told h =
        reports_refused s k.number place sheet 12 c.sound
        (sheet_short (meaning s) k.number (length sheet) place (opening_at s k.number) (progress_at s k.number) c.at_open.desk at_desk_holds long_first long_second
        (subst (λ (n : ℕ). length sheet / row_width < place + n) w.rows_are h))

    pub has_room : place + r.rows ≤ length sheet / row_width → place + length (report_of (sitting_at s k.number)) ≤ length sheet / row_width
    has_room h = subst (λ (n : ℕ). place + n ≤ length sheet / row_width) w.rows_are h

    told : List Row → ℤ → Reported
    told rs z = record { rows = rs; score = z }

    -- the rows read from the sheet and the score are the report of the desk's sitting
    said : (h : place + r.rows ≤ length sheet / row_width) (after : List ℕ) (z : ℤ) → after ≡ with_rows place (report_of (sitting_at s k.number)) sheet → z ≡ neg_ℤ (pos r.joint)
        → told (read_rows r.rows (drop (row_width * place) after)) z ≡ report (sitting_at s k.number)
    unfolding told
    said h after z e f =
        ap₂ told
        (ap (λ (n : ℕ). read_rows n (drop (row_width * place) after)) w.rows_are
        ∙ rows_back place (report_of (sitting_at s k.number)) sheet after (all_fit s k c) (from_row s k c place sheet (has_room h)) e)
        (f ∙ ap minus w.joint_is ∙ sym (score_estimate (sitting_at s k.number)))

    pub report_told : (h : place + r.rows ≤ length sheet / row_width) (after : List ℕ) (z : ℤ) → after ≡ with_rows place (report_of (sitting_at s k.number)) sheet → z ≡ neg_ℤ (pos r.joint)
        → Reports s k.number place (answered (reported (record { rows = read_rows r.rows (drop (row_width * place) after); score = z }))) sheet after
    unfolding told
    report_told h after z e f =
        subst (λ (x : Reported). Reports s k.number place (answered (reported x)) sheet after) (sym (said h after z e f))
        (reports_rows s k.number place sheet (report (sitting_at s k.number)) after c.sound
        (rows_told (meaning s) k.number (length sheet) place (opening_at s k.number) (progress_at s k.number) c.at_open.desk at_desk_holds long_first long_second (has_room h))
        e)
