-- Whatever the promises for C allow has one number, and the stores have in common what the call's own promise settles. Assumes nothing.
use Prim.Native.Nat.{ℕ}
use mathlib.Core.Path.{◌≡◌, sym, ap, ◌∙◌}
use mathlib.Core.List.{List}
use Rattle.replay.specs.Machine.{Call}
use Rattle.rules.specs.Rules.{rules}
use Rattle.store.specs.Making.{refusal_of}
use Rattle.store.proofs.Settling.{SameMaking, make_settled}
use Rattle.calls.specs.Refusals.{outcome_of}
use Rattle.calls.proofs.Settled.{SameMove, moves_settled}
use Rattle.calls.proofs.RunSettled.{SameRun, runs_settled}
use Rattle.told.specs.Codes.{told_as}
use Rattle.told.specs.Told.{MakeTold, MoveTold, RunTold}

-- THEOREM. Two makings told to C have one number, and the same store as far as any call can ask; refused: the same numbers
pub make_one : {K : ℕ} {s : List ℕ} {r q : ℕ} {x y : List ℕ} (m : MakeTold K s r x) (n : MakeTold K s q y) → (r ≡ q) × SameMaking K m.answer n.answer x y
make_one {K} {s} {r} {q} {x} {y} m n =
    let same = make_settled K s m.answer n.answer x y m.promise n.promise in
    (m.number ∙ ap refusal_of same.answers ∙ sym n.number, same)

-- THEOREM. The same of two openings, feeds or closings
pub move_one : {s : List ℕ} {c : Call rules} {r q : ℕ} {x y : List ℕ} (m : MoveTold s c r x) (n : MoveTold s c q y)
    → (r ≡ q) × SameMove s (outcome_of m.answer) (outcome_of n.answer) x y
move_one {s} {c} {r} {q} {x} {y} m n =
    let same = moves_settled s c (outcome_of m.answer) (outcome_of n.answer) x y m.promise n.promise in
    (m.number ∙ ap told_as same.answer ∙ sym n.number, same)

-- THEOREM. The same of two runs of feeds, which have one reason to end besides; none accepted: the same numbers
pub run_one : {s symbols : List ℕ} {d k r q why how : ℕ} {x y : List ℕ} (m : RunTold s d k symbols r why x) (n : RunTold s d k symbols q how y)
    → (why ≡ how) × SameRun s r q (outcome_of m.ending) (outcome_of n.ending) x y
run_one {s} {symbols} {d} {k} {r} {q} {why} {how} {x} {y} m n =
    let same = runs_settled s d k symbols r q (outcome_of m.ending) (outcome_of n.ending) x y m.promise n.promise in
    (m.number ∙ ap told_as same.ending_same ∙ sym n.number, same)
