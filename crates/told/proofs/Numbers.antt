-- The numbers that C gets for refusals: none is 0. Assumes nothing.
use Prim.Native.Nat.{ℕ, suc, ◌<◌}
use mathlib.Core.Path.{◌≡◌, sym, ap}
use native.Mathlib.Omega.{arith}
use Rattle.replay.specs.Table.{Outcome, refused, answered}
use Rattle.calls.specs.Refusals.{refusal_number}
use Rattle.calls.specs.declared.Refusal.{Refusal}
use Rattle.calls.specs.declared.Refusal.TheVariants.{Unsound, NoSuchDesk, AlreadyOpen, NotOpen, OutsideLimits, BadReservation, NoRoom, NotOfSitting, SampleFull, PastReservation, SampleEmpty, SheetShort, WeightOutside, SampleShort}
use Rattle.sitting_file.specs.Format as format
use Rattle.sitting_file.specs.declared.Refusal as file
use Rattle.sitting_file.specs.declared.Refusal.TheVariants as fault
use Rattle.writing.specs.Writing as writing
use Rattle.writing.specs.declared.Refusal as writer
use Rattle.writing.specs.declared.Refusal.TheVariants as unwritten
use Rattle.told.specs.Codes.{told_as}

-- THEOREM. No refusal has the number 0
pub above_zero : (why : Refusal) → 0 < refusal_number why
above_zero Unsound = omega arith
above_zero NoSuchDesk = omega arith
above_zero AlreadyOpen = omega arith
above_zero NotOpen = omega arith
above_zero OutsideLimits = omega arith
above_zero BadReservation = omega arith
above_zero NoRoom = omega arith
above_zero NotOfSitting = omega arith
above_zero SampleFull = omega arith
above_zero PastReservation = omega arith
above_zero SampleEmpty = omega arith
above_zero SheetShort = omega arith
above_zero WeightOutside = omega arith
above_zero SampleShort = omega arith

pub fault_above_zero : (why : file.Refusal) → 0 < format.refusal_number why
fault_above_zero fault.EndsEarly = omega arith
fault_above_zero fault.NotShortest = omega arith
fault_above_zero fault.OutsideLimits = omega arith
fault_above_zero fault.BytesLeft = omega arith

pub writing_above_zero : (why : writer.Refusal) → 0 < writing.refusal_number why
writing_above_zero unwritten.BadValues = omega arith
writing_above_zero unwritten.BufferShort = omega arith

-- a refusal's number is not 0
pub not_refused : {B : Type 0} (why : Refusal) → 0 ≡ refusal_number why → B
not_refused why e = absurd (omega (arith, above_zero why, e))

-- a number above 0 is a refusal's
pub refused_by : {Answer : Type 0} (o : Outcome Answer) (n : ℕ) → suc n ≡ told_as o → o ≡ refused (suc n)
refused_by (answered x) n e = absurd (omega (arith, e))
refused_by (refused m) n e = ap refused (sym e)
