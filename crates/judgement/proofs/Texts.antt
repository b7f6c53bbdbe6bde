-- The text of the rows on the sheet is the text of the report's rows, and a report that is answered can be printed. Assumes nothing.
use Prim.Native.Nat.{ℕ, ◌+◌, ◌*◌, ◌/◌, ◌≤◌}
use native.Mathlib.Omega.{arith}
use mathlib.Core.Path.{◌≡◌, refl, sym, ap, ap₂, subst, ◌∙◌}
use mathlib.Core.List.{List, [], ◌∷◌, ◌++◌, append_assoc}
use lib.ListN.{length, drop, length-append, length-drop}
use borrow.Author.Tests.{ltb-false}
use Rattle.numbers.specs.Limits.{row_width}
use Rattle.rows.specs.Rows.{Row, numbers_of, report_of}
use Rattle.rows.specs.Rows as rows
use Rattle.rows.proofs.Written.{AllFit, rows_fit}
use Rattle.estimate.specs.Recursion.{estimate_of}
use Rattle.replay.specs.Table.{Outcome, refused, answered}
use Rattle.replay.proofs.Tables.{answers_none}
use Rattle.rules.specs.Report.{Reported, report}
use Rattle.printing.specs.Text.{row_text, head_text, rows_text}
use Rattle.printing.specs.Putting.{Printed}
use Rattle.printing.proofs.Reports.{rows_first}
use Rattle.sitting_file.specs.Format.{read_of}
use Rattle.sitting_file.specs.Samples.{InLimits}
use Rattle.sitting_file.specs.Format.{Reading}
use Rattle.sitting_file.proofs.AcceptedFile.{accepted_holds}
use Rattle.judgement.specs.Judgement.{sheet_numbers, file_sitting, file_lines, FileReport, judged, judgement}
use Rattle.judgement.specs.Answers.{answer_for, sheet_left, Answers}
use Rattle.judgement.specs.Prints.{lines_text, text_of, CanPrint, text_from, Prints}
use Rattle.std.specs.Prelude.{Result, Ok, Err}
use Rattle.printing.specs.declared.Head.{Head}

-- rows one after another, whatever follows them on the sheet
rows_lines : (A : ℕ) (rs : List Row) (rest : List ℕ) → AllFit rs → rows_text A (length rs) (rows.sheet_of rs ++ rest) ≡ lines_text A rs
unfolding rows_text rows.sheet_of lines_text
rows_lines A [] rest f = refl
rows_lines A (r ∷ rs) rest f =
    ap (rows_text A (length (r ∷ rs))) (append_assoc (numbers_of r) (rows.sheet_of rs) rest)
    ∙ rows_first A (length rs) (numbers_of r) (rows.sheet_of rs ++ rest) (let e = f.0.counts in omega arith)
    ∙ ap (λ (t : List ℕ). row_text A (numbers_of r) ++ t) (rows_lines A rs rest f.1)

rows_long : (rs : List Row) → AllFit rs → length (rows.sheet_of rs) ≡ row_width * length rs
unfolding rows.sheet_of
rows_long [] f = refl
rows_long (r ∷ rs) f = omega (arith, f.0.counts, rows_long rs f.1, length-append (numbers_of r) (rows.sheet_of rs))

-- ---- a file that is reported on
pub record Stands (file : List ℕ) (sheet : ℕ) (x : FileReport) : Type 0 where
  pub accepted : read_of file ≡ Ok x.shape
  pub limits : InLimits x.shape
  pub own : x.report ≡ report (file_sitting file x.shape)
  pub fits : length x.report.rows ≤ sheet / row_width

pub stands : (file : List ℕ) (sheet : ℕ) (x : FileReport) → judgement file sheet ≡ answered x → Stands file sheet x
unfolding judged
stands file sheet x e = go (read_of file) refl e
  where
    go : (y : Reading) → read_of file ≡ y → judged file sheet y ≡ answered x → Stands file sheet x
    go (Err why) r e = let z : ◌≡◌ {A = ℕ} 0 1 = cc in absurd (omega arith)
    go (Ok shape) r e =
        let n = answers_none (file_lines file shape sheet) (record { shape = shape; report = report (file_sitting file shape) }) x e in
        let f = ltb-false (sheet / row_width) (0 + length (report_of (file_sitting file shape))) n.0.1.1.1.0 in
        subst (Stands file sheet) n.1 (record { accepted = r; limits = (accepted_holds file shape r).limits; own = refl; fits = omega arith })

module _ (file store sheet store' sheet' : List ℕ) (r : Result Head ℕ) (a : Answers file store sheet r store' sheet') where
  abbrev its : Outcome FileReport
  its = judgement file (length sheet)

  fitting : (x : FileReport) → Stands file (length sheet) x → AllFit x.report.rows
  fitting x s =
      let y = file_sitting file x.shape in
      let l = s.limits in
      subst (λ (q : Reported). AllFit q.rows) (sym s.own) (rows_fit y (estimate_of y) l.alphabet_high l.depth_high)

  length_kept : length sheet' ≡ length sheet
  unfolding sheet_left
  length_kept = ap length a.rows ∙ go its refl
    where
      go : (j : Outcome FileReport) → its ≡ j → length (sheet_left j sheet) ≡ length sheet
      go (refused k) e = refl
      go (answered x) e =
          let s = stands file (length sheet) x e in
          let rs = x.report.rows in
          let rest = drop (row_width * (0 + length rs)) sheet in
          omega (arith, s.fits, rows_long rs (fitting x s), length-append (rows.sheet_of rs) rest, length-drop (row_width * (0 + length rs)) sheet)

  -- a sheet of 512 rows
  pub can_print : length sheet' ≡ sheet_numbers → CanPrint r sheet'
  unfolding answer_for
  can_print n = subst (λ (q : Result Head ℕ). CanPrint q sheet') (sym a.answer) (go its refl)
    where
      go : (j : Outcome FileReport) → its ≡ j → CanPrint (answer_for j) sheet'
      go (refused k) e = tt
      go (answered x) e =
          let s = stands file (length sheet) x e in
          let f = s.fits in
          let m = length_kept in
          record { alphabet = s.limits.alphabet_high; few = omega arith; whole = omega arith }

  text_same : text_from r sheet' ≡ text_of its
  unfolding answer_for sheet_left text_of
  text_same = ap₂ text_from a.answer a.rows ∙ go its refl
    where
      go : (j : Outcome FileReport) → its ≡ j → text_from (answer_for j) (sheet_left j sheet) ≡ text_of j
      go (refused k) e = refl
      go (answered x) e =
          let s = stands file (length sheet) x e in
          ap (λ (t : List ℕ). head_text x.shape.alphabet x.shape.depth x.shape.first x.shape.second (length x.report.rows) x.report.score ++ t)
          (rows_lines x.shape.alphabet x.report.rows (drop (row_width * (0 + length x.report.rows)) sheet) (fitting x s))

  pub answer_prints : (bytes bytes' : List ℕ) (n : ℕ) → length sheet' ≡ sheet_numbers → Printed (text_from r sheet') bytes bytes' n → Prints file store sheet bytes n store' sheet' bytes'
  answer_prints bytes bytes' n m p =
      let e : its ≡ judgement file sheet_numbers = ap (judgement file) (sym length_kept ∙ m) in
      record {
        printed = subst (λ (t : List ℕ). Printed t bytes bytes' n) (text_same ∙ ap text_of e) p;
        answers = subst (λ (q : Result Head ℕ). Answers file store sheet q store' sheet') (a.answer ∙ ap answer_for e) a;
      }
