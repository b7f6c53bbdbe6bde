-- An answer of the code is settled by what the judgement tells of it: no two refusals have one number. Assumes nothing.
use Prim.Native.Nat.{ℕ}
use mathlib.Core.Path.{◌≡◌, refl, sym, ap, ◌∙◌}
use mathlib.Core.Bool.{cond}
use lib.Dec.{eqb}
use Rattle.std.specs.Prelude.{Result, Ok, Err}
use Rattle.calls.specs.declared.Refusal.TheVariants as call
use Rattle.sitting_file.specs.declared.Refusal.TheVariants as fault
use Rattle.printing.specs.declared.Head.{Head}
use Rattle.judgement.specs.Refusals.{refusal_told, numbered}
use Rattle.judgement.specs.declared.Refusal.{Refusal}
use Rattle.judgement.specs.declared.Refusal.TheVariants.{File, Call}

-- ---- a refusal from its number
unfoldable refusal_by : ℕ → Refusal
refusal_by n =
    cond (eqb n 1) (Call call.Unsound) (cond (eqb n 2) (Call call.NoSuchDesk) (cond (eqb n 3) (Call call.AlreadyOpen) (cond (eqb n 4) (Call call.NotOpen)
    (cond (eqb n 5) (Call call.OutsideLimits) (cond (eqb n 6) (Call call.BadReservation) (cond (eqb n 7) (Call call.NoRoom) (cond (eqb n 8) (Call call.NotOfSitting)
    (cond (eqb n 9) (Call call.SampleFull) (cond (eqb n 10) (Call call.PastReservation) (cond (eqb n 11) (Call call.SampleEmpty) (cond (eqb n 12) (Call call.SheetShort)
    (cond (eqb n 13) (File fault.EndsEarly) (cond (eqb n 14) (File fault.NotShortest) (cond (eqb n 15) (File fault.OutsideLimits) (cond (eqb n 16) (File fault.BytesLeft)
    (cond (eqb n 20) (Call call.WeightOutside) (Call call.SampleShort)))))))))))))))))

back : (why : Refusal) → refusal_by (refusal_told why) ≡ why
unfolding refusal_by
back (File fault.EndsEarly) = refl
back (File fault.NotShortest) = refl
back (File fault.OutsideLimits) = refl
back (File fault.BytesLeft) = refl
back (Call call.Unsound) = refl
back (Call call.NoSuchDesk) = refl
back (Call call.AlreadyOpen) = refl
back (Call call.NotOpen) = refl
back (Call call.OutsideLimits) = refl
back (Call call.BadReservation) = refl
back (Call call.NoRoom) = refl
back (Call call.NotOfSitting) = refl
back (Call call.SampleFull) = refl
back (Call call.PastReservation) = refl
back (Call call.SampleEmpty) = refl
back (Call call.SheetShort) = refl
back (Call call.WeightOutside) = refl
back (Call call.SampleShort) = refl

-- the code's answer from what is told of it
unfoldable answer_by : Result Head ℕ → Result Head Refusal
answer_by (Ok head) = Ok head
answer_by (Err n) = Err (refusal_by n)

-- THEOREM. Two answers that are told alike are one
pub one_answer : (x y : Result Head Refusal) → numbered x ≡ numbered y → x ≡ y
unfolding answer_by
one_answer x y e = sym (says x) ∙ ap answer_by e ∙ says y
  where
    says : (z : Result Head Refusal) → answer_by (numbered z) ≡ z
    says (Ok head) = refl
    says (Err why) = ap Err (back why)
