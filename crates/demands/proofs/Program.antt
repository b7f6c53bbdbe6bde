-- The program's report is the joint estimate of the file's own samples. Assumes nothing.
use Prim.Native.Nat.{ℕ}
use native.Mathlib.Omega.{arith}
use mathlib.Core.Path.{◌≡◌, refl, sym, ap, subst, ◌∙◌}
use mathlib.Core.List.{List, reverse, reverse-reverse}
use lib.ListN.{length}
use Rattle.contexts.specs.Counts.{N_placed}
use Rattle.contexts.specs.Sitting.{Sample, first, second}
use Rattle.contexts.proofs.Totals.{Over}
use Rattle.replay.specs.Table.{Outcome, refused, answered}
use Rattle.rules.specs.Feed.{counted_from}
use Rattle.printing.specs.declared.Head.{Head}
use Rattle.sitting_file.specs.Format.{read_of}
use Rattle.sitting_file.specs.Samples.{Below, first_of, second_of}
use Rattle.sitting_file.specs.declared.Shape.{Shape}
use Rattle.sitting_file.proofs.AcceptedFile.{accepted_holds}
use Rattle.judgement.specs.Judgement.{opening_of, strings_in, file_sitting, FileReport, judgement}
use Rattle.judgement.specs.Answers as answers
use Rattle.std.specs.Prelude.{Result, Ok, Err}
use Rattle.judgement.proofs.Texts.{stands}
use Rattle.demands.specs.Demands.{JointEstimate}
use Rattle.demands.specs.Program.{sample_in, OfItsFile, DemandOfProgram}
use Rattle.demands.proofs.Alphabet.{reverse_over, strings_zero}
use Rattle.demands.proofs.Estimate.{joint_estimate, counts_by_place}

-- a string is its sample reversed
back : (file : List ℕ) (shape : Shape) (i : Sample) → reverse (strings_in file shape i) ≡ sample_in file shape i
unfolding strings_in
back file shape first = reverse-reverse (first_of file shape)
back file shape second = reverse-reverse (second_of file shape)

-- an accepted file's symbols are below A
below : (file : List ℕ) (shape : Shape) → read_of file ≡ Ok shape → (i : Sample) → Below shape.alphabet (sample_in file shape i)
below file shape e first = (accepted_holds file shape e).first_below
below file shape e second = (accepted_holds file shape e).second_below

pub over : (file : List ℕ) (shape : Shape) → read_of file ≡ Ok shape → (i : Sample) → Over shape.alphabet (strings_in file shape i)
unfolding strings_in
over file shape e first = reverse_over shape.alphabet (first_of file shape) (below file shape e first)
over file shape e second = reverse_over shape.alphabet (second_of file shape) (below file shape e second)

same_head : {h k : Head} → ◌≡◌ {A = Result Head ℕ} (Ok h) (Ok k) → h ≡ k
same_head e = cc

never : {B : Type 0} {h : Head} {n : ℕ} → ◌≡◌ {A = Result Head ℕ} (Ok h) (Err n) → B
never e = let z : ◌≡◌ {A = ℕ} 0 1 = cc in absurd (omega arith)

pub demand_of_program : DemandOfProgram
unfolding answers.answer_for answers.sheet_left
demand_of_program file store sheet store' sheet' head a = go (judgement file (length sheet)) refl a.answer a.rows
  where
    go : (j : Outcome FileReport) → judgement file (length sheet) ≡ j → Ok head ≡ answers.answer_for j → sheet' ≡ answers.sheet_left j sheet → OfItsFile file sheet head sheet'
    go (refused n) e r s = never r
    go (answered x) e r s =
        let k = stands file (length sheet) x e in
        let l = k.limits.alphabet_low in
        let is : JointEstimate (file_sitting file x.shape) x.report =
        subst (JointEstimate (file_sitting file x.shape)) (sym k.own) (joint_estimate (file_sitting file x.shape) (omega arith)) in
        record {
          shape = x.shape;
          accepted = k.accepted;
          report = x.report;
          estimate = is;
          head_is = same_head r;
          rows_are = s;
          below = below file x.shape k.accepted;
          zero_above = strings_zero (opening_of x.shape) (strings_in file x.shape) x.report (over file x.shape k.accepted) is;
          true_counts = λ i t b.
              counts_by_place (opening_of x.shape) (strings_in file x.shape) i t b
              ∙ ap (λ (w : List ℕ). N_placed (counted_from (opening_of x.shape)) w (reverse t) b) (back file x.shape i);
        }
