-- The report asked for at the desk that sat the file is the one of the file's own sitting, and so are the answer and the sheet. Assumes nothing.
use Prim.Native.Nat.{ℕ, ◌+◌, ◌*◌, ◌/◌}
use native.Mathlib.Omega.{arith}
use mathlib.Core.Path.{◌≡◌, sym, ap, ap₂, ◌∙◌}
use mathlib.Core.Bool.{Bool, true, false, cond, ◌||◌}
use mathlib.Core.List.{List, [], ◌∷◌}
use lib.ListN.{length, drop, length-reverse}
use lib.Dec.{eqb, ltb}
use lib.IntN.{ℤ}
use Rattle.contexts.specs.Sitting.{first, second, Progress, sat}
use Rattle.numbers.specs.Limits.{plain_weight, row_width}
use Rattle.rows.proofs.Written.{rows_read}
use Rattle.replay.specs.Room.{Room}
use Rattle.replay.specs.Table.{Line, ◌when◌, line_number, applies, Outcome, refused, answered, verdict_of}
use Rattle.replay.specs.Machine.{asking, at_desk, verdict, table_of, table_at, asking_table, own_lines, answer_of, answer_at}
use Rattle.replay.proofs.Tables.{number_same}
use Rattle.rules.specs.Report.{Reported, report, too_short, does_not_fit}
use Rattle.rules.specs.Rules.{Answer, reporting, reported, rules, lines_of}
use Rattle.rules.specs.Rules as sitting
use Rattle.rules.proofs.OwnReport.{own_report}
use Rattle.calls.specs.Refusals.{written_of}
use Rattle.calls.specs.Promises.{Reports}
use Rattle.sitting_file.specs.Samples.{Holds, first_of, second_of}
use Rattle.sitting_file.specs.declared.Shape.{Shape}
use Rattle.judgement.specs.Judgement.{opening_of, strings_in, file_sitting, empty_sample, short_sample, FileReport}
use Rattle.judgement.specs.Answers as answers
use Rattle.judgement.specs.Answers.{headed, sheet_left, told_of}
use Rattle.std.specs.Prelude.{Result, Ok, Err}
use Rattle.printing.specs.declared.Head.{Head}
use Rattle.calls.specs.declared.Refusal.{Refusal}
use Rattle.calls.specs.declared.Reported as written
use Rattle.judgement.proofs.Feeds.{Sits}

-- ---- one table, two answers
pub data Alike {A B : Type 0} (x : A) (y : B) : Outcome A → Outcome B → Type 0 where
  by_number : (n : ℕ) → Alike x y (refused n) (refused n)
  by_answer : Alike x y (answered x) (answered y)

pub alike : {A B : Type 0} (x : A) (y : B) (ls : List Line) → Alike x y (verdict_of ls x) (verdict_of ls y)
unfolding verdict_of
alike x y [] = by_answer
alike {A} {B} x y (l ∷ ls) = go (applies l) (alike x y ls)
  where
    go : (b : Bool) → Alike x y (verdict_of ls x) (verdict_of ls y) → Alike x y (cond b (refused (line_number l)) (verdict_of ls x)) (cond b (refused (line_number l)) (verdict_of ls y))
    go true h = by_number (line_number l)
    go false h = h

module _ (file : List ℕ) (shape : Shape) (h : Holds file shape) (sheet : ℕ) where
  abbrev its : Reported
  its = report (file_sitting file shape)

  -- 11, 24 and 12
  abbrev pub late : List Line
  late = 11 when empty_sample shape ∷ 24 when short_sample shape ∷ 12 when does_not_fit sheet 0 (file_sitting file shape) ∷ []

  -- by the samples' lengths and the report
  abbrev as_told : ℕ → ℕ → Reported → Outcome Answer
  as_told n m q =
      cond (eqb n 0 || eqb m 0) (refused 11)
      (cond (too_short (opening_of shape) n || too_short (opening_of shape) m) (refused 24) (cond (ltb (sheet / row_width) (0 + length q.rows)) (refused 12) (answered (reported q))))

  -- the question at the desk that has the file's strings
  pub asked : (ρ : Room Progress) → Sits (opening_of shape) (strings_in file shape) ρ → verdict rules ρ (at_desk 0 (asking (reporting sheet 0))) ≡ verdict_of late (reported its)
  unfolding verdict verdict_of table_of table_at asking_table own_lines lines_of answer_of answer_at sitting.ask_answer strings_in
  asked ρ s =
      let p = s.progress in
      let own = own_report (opening_of shape) (strings_in file shape) p s.stands in
      let n = s.stands.sizes first ∙ length-reverse (first_of file shape) ∙ h.first_count in
      let m = s.stands.sizes second ∙ length-reverse (second_of file shape) ∙ h.second_count in
      rw s.at_desk_holds (ap (λ (k : ℕ). as_told k (p.size second) (report (sat shape.alphabet shape.depth plain_weight p))) n ∙ ap₂ (as_told shape.first) m own)

-- ---- what the report's promise makes of it

reported_same : {x y : Reported} → ◌≡◌ {A = Outcome Answer} (answered (reported x)) (answered (reported y)) → x ≡ y
reported_same e = cc

pub never : {B : Type 0} {n : ℕ} {x : Answer} → ◌≡◌ {A = Outcome Answer} (answered x) (refused n) → B
never e = let z : ◌≡◌ {A = ℕ} 0 1 = cc in absurd (omega arith)

module _ (shape : Shape) (its : Reported) (store sheet sheet' : List ℕ) where
  abbrev mine : FileReport
  mine = record { shape = shape; report = its }

  pub told_right : (r : Result written.Reported Refusal) (o : Outcome Answer) (j : Outcome FileReport) → Alike (reported its) mine o j → written_of r 0 sheet' ≡ o → told_of shape r ≡ answers.answer_for j
  unfolding answers.answer_for
  told_right (Ok r) o j (by_number k) e = never e
  told_right (Ok r) o j by_answer e =
      let f = reported_same e in
      ap₂ {C = Result Head ℕ} (λ (k : ℕ) (s : ℤ). Ok (headed shape k s)) (rows_read r.rows (drop (row_width * 0) sheet') ∙ ap (λ (q : Reported). length q.rows) f) (ap (λ (q : Reported). q.score) f)
  told_right (Err why) o j (by_number k) e = ap {B = Result Head ℕ} (λ (n : ℕ). Err n) (number_same e)
  told_right (Err why) o j by_answer e = never (sym e)

  pub sheet_right : (o out : Outcome Answer) (j : Outcome FileReport) → Alike (reported its) mine o j → Reports store 0 0 out sheet sheet' → out ≡ o → sheet' ≡ sheet_left j sheet
  unfolding sheet_left
  sheet_right o out j (by_number k) p e = p.refused_stays k e
  sheet_right o out j by_answer p e = p.written its e
