-- `recording::write_past` meets its contract. Assumes nothing.
use native.Mathlib.Omega.{arith}
use Rattle.recording.proofs.Opening.{appended}
use Rattle.recording.proofs.write_past.Goals as goal

pub returns-then-found-seen : goal.returns-then-found-seen
returns-then-found-seen c =
    let x = c.args in
    let wrote = c.write_new in
    appended x.found x.seen x.key x.cell x.part.now wrote.new.part (omega arith) c.requires.0 wrote.ensures
