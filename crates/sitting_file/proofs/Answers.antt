-- Each answer is given exactly when it is true of the file, and exactly one is. Assumes nothing.
use mathlib.Core.Path.{◌≡◌, sym, subst}
use mathlib.Core.Logic.{◌↔◌}
use Prim.Native.Nat.{ℕ}
use mathlib.Core.List.{List}
use Rattle.sitting_file.specs.Format.{read_of, Reading}
use Rattle.sitting_file.specs.Verdict.{Bytes, Verdict}
use Rattle.sitting_file.proofs.AnswerTrue.{answer_true}
use Rattle.sitting_file.proofs.AnswerOnly.{answer_only}

pub answer_exactly : (file : List ℕ) → Bytes file → (answer : Reading) → (answer ≡ read_of file) ↔ Verdict file answer
answer_exactly file bytes answer = (λ e. subst (Verdict file) (sym e) (answer_true file bytes), answer_only file answer)

-- of "accepted" and the four refusals one holds, and no other
pub record OneVerdict (file : List ℕ) : Type 0 where
  pub answer : Reading
  pub holds : Verdict file answer
  pub only : (other : Reading) → Verdict file other → other ≡ answer

pub one_verdict : (file : List ℕ) → Bytes file → OneVerdict file
one_verdict file bytes = record { answer = read_of file; holds = answer_true file bytes; only = answer_only file }
