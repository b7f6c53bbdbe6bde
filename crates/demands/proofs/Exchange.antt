-- E13 of joint estimates: the samples exchanged, the symbols renamed, and both. Assumes nothing.
use Prim.Native.Nat.{ℕ, ◌≤◌, ◌<◌}
use mathlib.Core.Path.{◌≡◌, sym, ap₂, subst₂, ◌∙◌}
use mathlib.Core.List.{List, map}
use lib.ListN.{length, length-map}
use lib.Dec.{T}
use lib.IntN.{ℤ}
use Rattle.numbers.specs.Limits.{most_symbols}
use Rattle.numbers.specs.Renames.{Renames}
use Rattle.contexts.specs.Context.{is_context}
use Rattle.contexts.specs.Counts.{N}
use Rattle.contexts.specs.Sitting.{Sample, Sitting, sitting_of}
use Rattle.contexts.proofs.Totals.{Over, N_outside}
use Rattle.contexts.proofs.Renaming.{N_renamed, over_renamed}
use Rattle.estimate.specs.Exchange.{other}
use Rattle.estimate.proofs.Exchange.{score_exchanged}
use Rattle.estimate.proofs.Rename.{score_renamed}
use Rattle.rows.specs.Rows.{Row}
use Rattle.rows.proofs.Again.{then_again}
use Rattle.rows.proofs.OneOrder.{one_order}
use Rattle.rows.proofs.Exchange.{rows_exchanged, rows_renamed}
use Rattle.rules.specs.Report.{Reported, report}
use Rattle.demands.specs.Demands.{JointEstimate}
use Rattle.demands.specs.Exchange.{Way, exchanging, renaming, both, strings_by, SameReport, OneAgain, OfStrings}
use Rattle.demands.proofs.Alphabet.{below_over}
use Rattle.demands.proofs.Estimate.{joint_estimate, one_estimate}

module _ (A D weight from : ℕ) where
  -- the report that the recursion works out
  abbrev of : (Sample → List ℕ) → Reported
  of w = report (sitting_of A D weight from w)

  exchanged_report : (w : Sample → List ℕ) → SameReport {A = A} exchanging (of w) (of (λ i. w (other i)))
  exchanged_report w = record { same_score = score_exchanged (sitting_of A D weight from w); same_rows = rows_exchanged (sitting_of A D weight from w) }

  module _ (few : A ≤ most_symbols) (π : ℕ → ℕ) (r : Renames A π) (w : Sample → List ℕ) (over : (i : Sample) → Over A (w i)) where
    sizes : (i : Sample) → length (w i) ≡ length (map π (w i))
    sizes i = sym (length-map (w i) π)

    alike : (i : Sample) (s : List ℕ) (a : ℕ) → T (is_context A D s) → a < A → N from (w i) s a ≡ N from (map π (w i)) (map π s) (π a)
    alike i s a c l = sym (N_renamed A π r from D (w i) s a (over i) c l)

    none : (i : Sample) (s : List ℕ) (b : ℕ) → A ≤ b → N from (map π (w i)) s b ≡ 0
    none i s b l = N_outside A from (map π (w i)) s b (over_renamed A π r (w i) (over i)) l

    renamed_report : SameReport (renaming π r) (of w) (of (λ i. map π (w i)))
    renamed_report = record {
      same_score = score_renamed A D weight π r (λ i. length (w i)) (λ i. length (map π (w i))) (λ i. N from (w i)) (λ i. N from (map π (w i))) sizes alike;
      same_rows = rows_renamed A D weight π r (λ i. length (w i)) (λ i. length (map π (w i))) (λ i. N from (w i)) (λ i. N from (map π (w i))) sizes alike few none;
    }

  -- the estimate of the second's strings is that of the first's, changed so
  pub report_by : A ≤ most_symbols → (way : Way A) (w : Sample → List ℕ) → ((i : Sample) → Over A (w i)) → SameReport way (of w) (of (strings_by way w))
  report_by few exchanging w over = exchanged_report w
  report_by few (renaming π r) w over = renamed_report few π r w over
  report_by few (both π r) w over =
      let one = exchanged_report w in
      let two = renamed_report few π r (λ i. w (other i)) (λ i. over (other i)) in
      record { same_score = two.same_score ∙ one.same_score; same_rows = then_again one.same_rows two.same_rows }

-- a joint estimate is the report that the recursion works out
is_report : (x : Sitting) (q : Reported) → 0 < x.symbols → JointEstimate x q → report x ≡ q
is_report x q p j = one_estimate x (report x) q p (joint_estimate x p) j

pub estimates_by : (A D weight from : ℕ) (way : Way A) (w : Sample → List ℕ) (q r : Reported) → 0 < A → A ≤ most_symbols → ((i : Sample) → Over A (w i))
    → JointEstimate (sitting_of A D weight from w) q → JointEstimate (sitting_of A D weight from (strings_by way w)) r → SameReport way q r
estimates_by A D weight from way w q r p few over j k =
    subst₂ (SameReport way) (is_report (sitting_of A D weight from w) q p j) (is_report (sitting_of A D weight from (strings_by way w)) r p k) (report_by A D weight from few way w over)

pub of_strings : OfStrings
of_strings A D weight from way w q r p few below j k = estimates_by A D weight from way w q r p few (λ i. below_over A (w i) (below i)) j k

pub one_again : OneAgain
one_again A way p q r a b = ap₂ told (one_order a.same_rows b.same_rows) (a.same_score ∙ sym b.same_score)
  where
    told : List Row → ℤ → Reported
    told rs n = record { rows = rs; score = n }
