-- Every accepted report rests on acts of both samples: else 11 or 24 is given. Assumes nothing.
use Prim.Native.Nat.{ℕ, ◌<◌}
use native.Mathlib.Omega.{arith}
use mathlib.Core.List.{List}
use lib.ListN.{length}
use Rattle.contexts.specs.Sitting.{Sample}
use Rattle.replay.specs.Serial.{Course}
use Rattle.rules.specs.Report.{Reported}
use Rattle.rules.specs.Rules.{reporting, reported, rules, lines_of}
use Rattle.rules.proofs.Short.{both_long, long_counted}
use Rattle.demands.specs.Short.{RestsOnActs, ReportsRestOnActs}
use Rattle.demands.proofs.OwnStrings.{up_to, AnsweredBy, next_answer}

rests : (gs : List (Course rules)) (d sheet place : ℕ) (r : Reported) → AnsweredBy gs d (reporting sheet place) (reported r) → RestsOnActs gs d
unfolding lines_of
rests gs d sheet place r h = record { its = h.its; longer = longer; some_counted = λ i. long_counted h.its.named h.its.strings i (longer i) }
  where
    longer : (i : Sample) → h.its.named.depth < length (h.its.strings i)
    longer i = omega (arith, both_long h.its.named h.progress h.accepted.0 h.accepted.1.0 i, h.stands.sizes i)

-- THEOREM. No report rests on nothing
pub reports_rest_on_acts : ReportsRestOnActs
reports_rest_on_acts K σ τ cs os made run before behind said saying d sheet place r many called answered-so =
    let far = up_to before behind said saying many (rw (called, answered-so) at run) in
    rests _ d sheet place r (next_answer K σ far.now far.next before said made far.run d (reporting sheet place) (reported r) far.does)
