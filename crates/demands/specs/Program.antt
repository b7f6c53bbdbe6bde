-- DEMAND 2 OF THE PROGRAM: its report is the joint estimate of the file's own two samples. Proved in proofs/Program. Assumes nothing.
use Rattle.std.specs.Prelude.{ℕ, ◌≡◌, List, reverse, length}
use Rattle.contexts.specs.Counts.{N_placed}
use Rattle.contexts.specs.Sitting.{Sample, first, second}
use Rattle.rows.specs.Rows.{ZeroFrom}
use Rattle.rules.specs.Feed.{counted_from}
use Rattle.rules.specs.Report.{Reported}
use Rattle.calls.specs.Promises.{with_rows}
use Rattle.printing.specs.declared.Head.{Head}
use Rattle.sitting_file.specs.Format.{read_of}
use Rattle.sitting_file.specs.Samples.{Below, first_of, second_of}
use Rattle.sitting_file.specs.declared.Shape.{Shape}
use Rattle.judgement.specs.Judgement.{opening_of, file_sitting}
use Rattle.judgement.specs.Answers.{headed, Answers}
use Rattle.std.specs.Prelude.{Ok}
use Rattle.demands.specs.Demands.{JointEstimate}

-- a sample of the file as it stands there, oldest symbol first
abbrev pub sample_in : List ℕ → Shape → Sample → List ℕ
sample_in file shape first = first_of file shape
sample_in file shape second = second_of file shape

-- the answer with this head, which left the sheet so, is the joint estimate of the file's samples
pub record OfItsFile (file sheet : List ℕ) (head : Head) (sheet' : List ℕ) : Type 0 where
  pub shape : Shape
  pub accepted : read_of file ≡ Ok shape
  pub report : Reported
  pub estimate : JointEstimate (file_sitting file shape) report
  pub head_is : head ≡ headed shape (length report.rows) report.score
  pub rows_are : sheet' ≡ with_rows 0 report.rows sheet
  -- every symbol of the samples is below A, and the rows have "0 for symbols from A up"
  pub below : (i : Sample) → Below shape.alphabet (sample_in file shape i)
  pub zero_above : ZeroFrom shape.alphabet report.rows
  -- "every frequency the true count": N(s,a) by place, sample and context oldest first
  pub true_counts : (i : Sample) (s : List ℕ) (a : ℕ) → (file_sitting file shape).count i s a ≡ N_placed (counted_from (opening_of shape)) (sample_in file shape i) (reverse s) a

-- every answer that the program's promise allows is one, where it is no refusal
abbrev pub DemandOfProgram : Type 0
DemandOfProgram = (file store sheet store' sheet' : List ℕ) (head : Head) → Answers file store sheet (Ok head) store' sheet' → OfItsFile file sheet head sheet'
