-- `recording::write_run` meets its contract: the records of the contexts that are shorter than `seen` are written. Assumes nothing.
use mathlib.Core.Path.{◌≡◌}
use lib.ListN.{length}
use Rattle.records.proofs.KeyWalk.{Walk}
use Rattle.recording.proofs.Opening.{Run}
use Rattle.recording.proofs.write_run.Given as goal

abbrev pub invariant-loop-seen : goal.invariant-loop-seen
invariant-loop-seen l =
    Walk l.missing.desk l.recent l.key l.eights l.seen × (length l.part ≡ length l.initial.part) × Run l.missing.desk l.recent l.missing.found l.missing.cell l.seen l.part
