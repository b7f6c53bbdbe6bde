-- At weight 4 a report is the one of the doubled score, with four times its score: of every joint estimate, of every run and of the program. Assumes nothing.
use Prim.Native.Nat.{ℕ}
use native.Mathlib.Omega.{arith}
use mathlib.Core.Path.{◌≡◌, refl, sym, subst, ◌∙◌}
use mathlib.Core.List.{List}
use Rattle.estimate.specs.Trees.{Triple}
use Rattle.estimate.specs.Recursion.{estimate_of}
use Rattle.estimate.specs.Doubled.{AsDoubled}
use Rattle.estimate.proofs.Unique.{only_estimate}
use Rattle.estimate.proofs.Doubled.{as_doubled}
use Rattle.replay.specs.Serial.{Course}
use Rattle.rules.specs.Report.{Reported}
use Rattle.rules.specs.Rules.{reporting, reported, rules}
use Rattle.rules.specs.Strings.{sitting_for}
use Rattle.sitting_file.proofs.AcceptedFile.{accepted_holds}
use Rattle.judgement.specs.Judgement.{file_sitting}
use Rattle.demands.specs.Weight.{PlainEstimate, PlainAt, PlainReports, PlainProgram}
use Rattle.demands.proofs.Demand2.{own}
use Rattle.demands.proofs.OwnStrings.{up_to, AnsweredBy, next_answer}

-- THEOREM
pub plain_estimate : PlainEstimate
plain_estimate x r p plain j =
    let same : j.triple ≡ estimate_of x = only_estimate x j.triple p j.best j.ties in
    let picked : AsDoubled x j.triple = subst (λ (t : Triple). AsDoubled x t) (sym same) (as_doubled x plain p) in
    record { triple = j.triple; picked = picked; rows = j.rows; score_is = j.score_is ∙ picked.four_times j.triple }

-- a report that is answered by its sitting's strings
plain_at : (gs : List (Course rules)) (d sheet place : ℕ) (r : Reported) → AnsweredBy gs d (reporting sheet place) (reported r) → PlainAt gs d r
plain_at gs d sheet place r h =
    let few = h.fits.alphabet_fewest in
    record { its = h.its; as_before = λ plain. plain_estimate (sitting_for h.its.named h.its.strings) r (omega arith) plain (own gs d sheet place r h) }

-- THEOREM
pub plain_reports : PlainReports
plain_reports K σ τ cs os made run before behind said saying d sheet place r many called answered-so =
    let far = up_to before behind said saying many (rw (called, answered-so) at run) in
    plain_at _ d sheet place r (next_answer K σ far.now far.next before said made far.run d (reporting sheet place) (reported r) far.does)

-- THEOREM
pub plain_program : PlainProgram
plain_program file sheet sheet' head its =
    let low = (accepted_holds file its.shape its.accepted).limits.alphabet_low in
    plain_estimate (file_sitting file its.shape) its.report (omega arith) refl its.estimate
