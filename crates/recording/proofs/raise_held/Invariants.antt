-- `recording::raise_held` meets its contract: the records at the places gone over are raised. Assumes nothing.
use mathlib.Core.Path.{◌≡◌}
use Rattle.recording.specs.Counted.{raised_each}
use Rattle.recording.proofs.raise_held.Given as goal

abbrev pub invariant-loop-place : goal.invariant-loop-place
invariant-loop-place l = l.numbers ≡ raised_each l.place-index l.cell l.fn.sought.places l.initial.numbers
