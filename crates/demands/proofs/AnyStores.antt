-- Every report at a store that passes the test is the joint estimate of the counts there, with 0 for symbols from A up. Assumes nothing.
use Prim.Native.Nat.{ℕ}
use native.Mathlib.Omega.{arith}
use mathlib.Core.Path.{subst}
use mathlib.Core.List.{List}
use lib.ListN.{length}
use Rattle.rules.specs.Report.{Reported}
use Rattle.rules.specs.Rules.{reporting, reported, ask_answer}
use Rattle.demands.specs.Demands.{JointEstimate}
use Rattle.demands.specs.AnyStore.{sitting_there, ReportAt, ReportsAtStores}
use Rattle.demands.proofs.Alphabet.{estimate_zero}
use Rattle.demands.proofs.Estimate.{joint_estimate}
use Rattle.demands.proofs.Opened.{AnsweredAt, asked_at}
use Rattle.demands.proofs.Demand2.{same_report}

there : (σ : List ℕ) (d sheet place : ℕ) (r : Reported) → AnsweredAt σ d (reporting sheet place) (reported r) → ReportAt σ d r
unfolding ask_answer
there σ d sheet place r h =
    let x = sitting_there h.desk in
    let few = h.fits.alphabet_fewest in
    let is : JointEstimate x r = subst (JointEstimate x) (same_report h.answer) (joint_estimate x (omega arith)) in
    record { desk = h.desk; estimate = is; zero_above = estimate_zero x r h.fits.only_below is }

pub reports_at_stores : ReportsAtStores
reports_at_stores σ sheet after d place r p = there σ d (length sheet) place r (asked_at σ d (reporting (length sheet) place) (reported r) p.asks)
