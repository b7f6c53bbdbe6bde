-- `recording::raise_held` meets its contract: the records at the places gone over are raised. Assumes nothing.
use mathlib.Core.Path.{◌≡◌}
use Prim.Native.Nat.{◌<◌}
use native.Mathlib.Omega.{arith}
use lib.ListN.{take, get_or}
use lib.Seq.{length-take-le, get_or-take}
use Rattle.recording.proofs.Raising.{length_raised, raised_none, raised_on}
use Rattle.recording.proofs.raise_held.Goals.{In-loop-place}
use Rattle.recording.proofs.raise_held.Goals as goal

-- the next place is one of those that are held
next : (c : In-loop-place) → (let x = c.args in let i = c.loop-place.place-index in
    (i < x.sought.found) × (get_or (take x.sought.found x.sought.places) i 0 ≡ get_or x.sought.places i 0))
next c =
    let x = c.args in
    let i = c.loop-place.place-index in
    let inside : i < x.sought.found = omega (arith, length-take-le x.sought.found x.sought.places (omega arith)) in
    (inside, get_or-take x.sought.found x.sought.places i 0 inside)

pub loop-place-init : goal.loop-place-init
loop-place-init c = raised_none _ _ _

pub raise-requires : goal.raise-requires
raise-requires c =
    let x = c.args in
    let i = c.loop-place.place-index in
    let here = next (goal.at.raise-requires c).In-loop-place in
    rw (here.1, c.loop-place.invariant, length_raised i x.cell x.sought.places x.numbers.now)
    (c.requires.there i here.0, c.requires.small i here.0)

pub loop-place-preserved : goal.loop-place-preserved
loop-place-preserved c =
    let x = c.args in
    let here = next (goal.at.loop-place-preserved c).In-loop-place in
    raised_on c.loop-place.place-index x.cell x.sought.places x.numbers.now c.loop-place.numbers c.raise.new.numbers c.loop-place.invariant (rw here.1 at c.raise.ensures)

pub returns : goal.returns
returns c =
    let x = c.args in
    let all : c.loop-place.place-index ≡ x.sought.found = omega (arith, length-take-le x.sought.found x.sought.places (omega (arith, c.requires.few))) in
    rw all at c.loop-place.invariant
