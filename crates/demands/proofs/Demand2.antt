-- Demand 2: every report of a run is the joint estimate of its sitting's own strings. Assumes nothing.
use Prim.Native.Nat.{ℕ}
use native.Mathlib.Omega.{arith}
use mathlib.Core.Path.{◌≡◌, sym, subst, ◌∙◌}
use mathlib.Core.List.{List}
use Rattle.replay.specs.Serial.{Course}
use Rattle.rules.specs.Report.{Reported}
use Rattle.rules.specs.Rules.{Answer, reporting, reported, rules, ask_answer}
use Rattle.rules.specs.Strings.{sitting_for}
use Rattle.rules.proofs.OwnReport.{own_report}
use Rattle.demands.specs.Demands.{JointEstimate, OfItsStrings, Demand2}
use Rattle.demands.proofs.Alphabet.{strings_zero}
use Rattle.demands.proofs.Estimate.{joint_estimate}
use Rattle.demands.proofs.OwnStrings.{up_to, AnsweredBy, next_answer}

-- two answers of reports are the same report
pub same_report : {q r : Reported} → ◌≡◌ {A = Answer} (reported q) (reported r) → q ≡ r
same_report e = cc

-- a report that is answered by its sitting's strings is their joint estimate
pub own : (gs : List (Course rules)) (d sheet place : ℕ) (r : Reported) (h : AnsweredBy gs d (reporting sheet place) (reported r))
    → JointEstimate (sitting_for h.its.named h.its.strings) r
unfolding ask_answer
own gs d sheet place r h =
    let o = h.its.named in
    let w = h.its.strings in
    let few = h.fits.alphabet_fewest in
    subst (JointEstimate (sitting_for o w)) (sym (own_report o w h.progress h.stands) ∙ same_report h.answer) (joint_estimate (sitting_for o w) (omega arith))

-- .. and so the report is theirs
theirs : (gs : List (Course rules)) (d sheet place : ℕ) (r : Reported) → AnsweredBy gs d (reporting sheet place) (reported r) → OfItsStrings gs d r
theirs gs d sheet place r h =
    let is = own gs d sheet place r h in
    record { its = h.its; estimate = is; zero_above = strings_zero h.its.named h.its.strings r h.stands.over is }

pub demand_2 : Demand2
demand_2 K σ τ cs os made run before behind said saying d sheet place r many called answered-so =
    let far = up_to before behind said saying many (rw (called, answered-so) at run) in
    theirs _ d sheet place r (next_answer K σ far.now far.next before said made far.run d (reporting sheet place) (reported r) far.does)
