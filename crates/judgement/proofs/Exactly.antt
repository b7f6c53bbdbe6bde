-- The program refuses an accepted file by the number of the first line that applies, and by no other; the lines stand in the written order. Assumes nothing.
use Prim.Native.Nat.{ℕ}
use native.Mathlib.Omega.{arith}
use mathlib.Core.Path.{◌≡◌, refl, sym, ap, ◌∙◌}
use mathlib.Core.Logic.{◌↔◌}
use mathlib.Core.List.{List}
use lib.ListN.{length}
use Rattle.replay.specs.Table.{Outcome, refused, answered, verdict_of, First}
use Rattle.replay.proofs.Tables.{refused_exactly}
use Rattle.rules.specs.Report.{report}
use Rattle.rules.specs.Orders.{program_order, numbers_in}
use Rattle.sitting_file.specs.Format.{read_of}
use Rattle.sitting_file.specs.declared.Shape.{Shape}
use Rattle.judgement.specs.Judgement.{file_sitting, file_lines, FileReport, judged}
use Rattle.judgement.specs.Answers.{answer_for, Answers}
use Rattle.std.specs.Prelude.{Result, Ok, Err}
use Rattle.printing.specs.declared.Head.{Head}

refusal_of_lem : (j : Outcome FileReport) (n : ℕ) → answer_for j ≡ Err n → j ≡ refused n
unfolding answer_for
refusal_of_lem (refused k) n e = let same : k ≡ n = cc in ap refused same
refusal_of_lem (answered x) n e = let z : ◌≡◌ {A = ℕ} 0 1 = cc in absurd (omega arith)

-- THEOREM. The numbers of the program's table are those of its list, in this order
pub file_in_order : (file : List ℕ) (shape : Shape) (sheet : ℕ) → numbers_in (file_lines file shape sheet) ≡ program_order
file_in_order file shape sheet = refl

module _ (file store sheet store' sheet' : List ℕ) (r : Result Head ℕ) (a : Answers file store sheet r store' sheet') (shape : Shape) (e : read_of file ≡ Ok shape) where
  abbrev mine : FileReport
  mine = record { shape = shape; report = report (file_sitting file shape) }

  as_told : r ≡ answer_for (verdict_of (file_lines file shape (length sheet)) mine)
  unfolding judged
  as_told = a.answer ∙ ap answer_for (ap (judged file (length sheet)) e)

  -- THEOREM. 10, 11, 24 and 12 exactly when that is the first line that applies
  pub refuses_exactly : (n : ℕ) → (r ≡ Err n) ↔ First (file_lines file shape (length sheet)) n
  unfolding answer_for
  refuses_exactly n =
      let t = refused_exactly (file_lines file shape (length sheet)) mine n in
      (λ f. t.0 (refusal_of_lem _ n (sym as_told ∙ f)), λ f. as_told ∙ ap answer_for (t.1 f))
