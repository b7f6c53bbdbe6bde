-- Each way through the function answers the judgement of the file: the reader refuses, a feed does, or the report is asked for. Assumes nothing.
use Prim.Native.Nat.{ℕ, ◌≤◌, ◌<◌}
use mathlib.Core.Path.{◌≡◌, refl, sym, ap, subst, ◌∙◌}
use mathlib.Core.List.{List}
use lib.ListN.{length}
use borrow.Author.Tests.{lt-ltb, le-ltb}
use Rattle.contexts.specs.Sitting.{Progress, contexts_held}
use Rattle.replay.specs.Room.{Room}
use Rattle.replay.specs.Table.{Line, Outcome, refused, answered, verdict_of}
use Rattle.replay.specs.Machine.{asking, at_desk, verdict}
use Rattle.replay.proofs.Tables.{number_same}
use Rattle.rules.specs.Report.{Reported, report}
use Rattle.rules.specs.Rules.{done, reporting, reported, rules}
use Rattle.calls.specs.Refusals.{written_of}
use Rattle.calls.specs.Promises.{Reports}
use Rattle.calls.specs.declared.Refusal.{Refusal}
use Rattle.sitting_file.specs.Format.{read_of}
use Rattle.sitting_file.specs.Format as format
use Rattle.sitting_file.specs.declared.Refusal as fault
use Rattle.sitting_file.specs.declared.Shape.{Shape}
use Rattle.sitting_file.specs.Format.{Reading}
use Rattle.sitting_file.proofs.AcceptedFile.{accepted_holds}
use Rattle.judgement.specs.Judgement.{room_made, opening_of, strings_in, file_sitting, FileReport, judged, judgement}
use Rattle.judgement.specs.Sitting.{run_of, Feeds}
use Rattle.judgement.specs.Answers as answers
use Rattle.judgement.specs.Answers.{sheet_left, told_of, StoreAfter, Answers}
use Rattle.std.specs.Prelude.{Result, Ok, Err}
use Rattle.printing.specs.declared.Head.{Head}
use Rattle.calls.specs.declared.Reported as written
use Rattle.judgement.proofs.Feeds.{Ran, whole, stopped}
use Rattle.judgement.proofs.Both.{file_told}
use Rattle.judgement.proofs.Asking.{alike, late, asked, never, told_right, sheet_right}

module _ (file store sheet : List ℕ) where
  from_judged : (x : Reading) → read_of file ≡ x → (j : Outcome FileReport) → judged file (length sheet) x ≡ j → (r : Result Head ℕ) (store' sheet' : List ℕ)
      → r ≡ answers.answer_for j → sheet' ≡ sheet_left j sheet → StoreAfter file x store store' → Answers file store sheet r store' sheet'
  from_judged x e j f r store' sheet' a s n =
      let g : judgement file (length sheet) ≡ j = ap (judged file (length sheet)) e ∙ f in
      record {
        answer = a ∙ sym (ap answers.answer_for g);
        rows = s ∙ sym (ap (λ (k : Outcome FileReport). sheet_left k sheet) g);
        numbers = subst (λ (y : Reading). StoreAfter file y store store') (sym e) n;
      }

  -- the reader refuses
  pub reader_refuses : (why : fault.Refusal) → read_of file ≡ Err why → Answers file store sheet (Err (format.refusal_number why)) store sheet
  unfolding judged answers.answer_for sheet_left
  reader_refuses why e = from_judged (Err why) e (refused (format.refusal_number why)) refl _ store sheet refl refl refl

  module _ (shape : Shape) (e : read_of file ≡ Ok shape) where
    abbrev its_lines : List Line
    its_lines = late file shape (accepted_holds file shape e) (length sheet)

    past_judged : room_made < contexts_held (file_sitting file shape) → judged file (length sheet) (Ok shape) ≡ refused 10
    unfolding judged verdict_of
    past_judged h = rw (lt-ltb room_made (contexts_held (file_sitting file shape)) h)

    within_judged : contexts_held (file_sitting file shape) ≤ room_made
        → judged file (length sheet) (Ok shape) ≡ verdict_of its_lines (record { shape = shape; report = report (file_sitting file shape) })
    unfolding judged verdict_of
    within_judged h = rw (le-ltb room_made (contexts_held (file_sitting file shape)) h)

    -- a feed is refused
    pub feed_refused : (n : ℕ) (store' : List ℕ) → Feeds (refused n) store' (run_of file shape) → Answers file store sheet (Err n) store' sheet
    unfolding answers.answer_for sheet_left
    feed_refused n store' f = go (file_told file shape (accepted_holds file shape e))
      where
        go : Ran (opening_of shape) (strings_in file shape) (run_of file shape) → Answers file store sheet (Err n) store' sheet
        go (whole fits d s) = never (sym d ∙ sym f.ends)
        go (stopped past d) =
            let ten : n ≡ 10 = number_same (f.ends ∙ d) in
            from_judged (Ok shape) e (refused 10) (past_judged past) (Err n) store' sheet (ap {B = Result Head ℕ} (λ (k : ℕ). Err k) ten) refl f.means

    -- both samples are fed, and the report is asked for
    pub report_told : (r : Result written.Reported Refusal) (store' sheet' : List ℕ) → Feeds (answered done) store' (run_of file shape) → Reports store' 0 0 (written_of r 0 sheet') sheet sheet'
        → Answers file store sheet (told_of shape r) store' sheet'
    report_told r store' sheet' f p = go (file_told file shape (accepted_holds file shape e))
      where
        its : Reported
        its = report (file_sitting file shape)

        mine : FileReport
        mine = record { shape = shape; report = its }

        go : Ran (opening_of shape) (strings_in file shape) (run_of file shape) → Answers file store sheet (told_of shape r) store' sheet'
        go (stopped past d) = never (f.ends ∙ d)
        go (whole fits d s) =
            let same = alike (reported its) mine its_lines in
            let asks : written_of r 0 sheet' ≡ verdict_of its_lines (reported its) =
            p.asks.answers f.means.sound
            ∙ ap (λ (ρ : Room Progress). verdict rules ρ (at_desk 0 (asking (reporting (length sheet) 0)))) f.means.room
            ∙ asked file shape (accepted_holds file shape e) (length sheet) (run_of file shape).room s in
            from_judged (Ok shape) e (verdict_of its_lines mine) (within_judged fits) (told_of shape r) store' sheet' (told_right shape its store' sheet sheet' r _ _ same asks)
            (sheet_right shape its store' sheet sheet' _ _ _ same p asks) f.means
