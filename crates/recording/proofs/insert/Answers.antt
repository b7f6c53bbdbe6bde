-- `recording::insert` meets its contract: the part has been shifted, and the new records stand at its front. Assumes nothing.
use mathlib.Core.Path.{◌≡◌, sym, ◌∙◌}
use Prim.Native.Nat.{◌+◌, ◌-◌, ◌*◌}
use native.Mathlib.Omega.{arith}
use lib.ListN.{length, take}
use lib.Seq.{length-take-le}
use Rattle.records.specs.Records.{width}
use Rattle.recording.proofs.Opening.{inserted}
use borrow.Author.Rules.{rules}
use Rattle.recording.proofs.insert.Goals.{After-shift_up}
use Rattle.recording.proofs.insert.Goals as goal

-- the front that is lent has room for the new records alone
front : (c : After-shift_up) → (let x = c.args in
    let gap = width * (length x.missing.recent.now + 1 - x.missing.found) in length (take gap c.shift_up.new.part) ≡ gap)
front c =
    let x = c.args in
    length-take-le (width * (length x.missing.recent.now + 1 - x.missing.found)) c.shift_up.new.part (search rules)

pub slice_bounds-write_run-end-2 : goal.slice_bounds-write_run-end-2
slice_bounds-write_run-end-2 c = sym (front (goal.at.slice_bounds-write_run-end-2 c).After-shift_up)

pub write_run-requires : goal.write_run-requires
write_run-requires c =
    let pre = c.requires in
    record { desk = pre.desk; context = pre.context; some = pre.some; cell = pre.cell; fits = omega (arith, front (goal.at.write_run-requires c).After-shift_up); eighths = omega (arith, front (goal.at.write_run-requires c).After-shift_up) }

pub returns : goal.returns
returns c =
    let x = c.args in
    let shifted = c.shift_up in
    let wrote = c.write_run in
    let gap = width * (length x.missing.recent.now + 1 - x.missing.found) in
    let same : length wrote.new.part ≡ length (take gap shifted.new.part) = search rules in
    inserted x.missing.desk x.missing.recent.now x.missing.found x.missing.cell x.part.now shifted.new.part wrote.new.part c.requires shifted.ensures (same ∙ front (goal.at.returns c).After-shift_up) wrote.ensures
