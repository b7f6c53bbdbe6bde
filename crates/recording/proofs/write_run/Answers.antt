-- `recording::write_run` meets its contract: the records of the contexts that are shorter than `seen` are written. Assumes nothing.
use mathlib.Core.Path.{refl}
use Prim.Native.Nat.{◌≤◌}
use native.Mathlib.Omega.{arith}
use borrow.Author.Rules.{rules}
use lib.ListN.{length}
use Rattle.records.proofs.KeyWalk.{walk_start, walk_fits, walk_on}
use Rattle.recording.proofs.Opening.{run_start, run_on}
use Rattle.recording.proofs.write_run.Goals as goal

pub loop-seen-init : goal.loop-seen-init
loop-seen-init c =
    let x = c.args in
    (walk_start x.missing.desk x.missing.recent.now, refl, run_start x.missing.desk x.missing.recent.now x.missing.found x.missing.cell x.part.now)

pub longer-key-requires : goal.longer-key-requires
longer-key-requires c =
    let x = c.args in
    let at = c.loop-seen in
    walk_fits x.missing.desk x.missing.recent.now c.requires.desk c.requires.context at.key at.eights at.seen at.invariant.0

pub loop-seen-preserved : goal.loop-seen-preserved
loop-seen-preserved c =
    let x = c.args in
    let at = c.loop-seen in
    let wrote = c.write_past in
    let on : at.seen ≤ length x.missing.recent.now = omega arith in (
      walk_on x.missing.desk x.missing.recent.now c.requires.desk c.requires.context at.key at.eights at.seen at.invariant.0 c.longer-key.result on c.longer-key.ensures,
      search rules,
      run_on x.missing.desk x.missing.recent.now x.missing.found x.missing.cell at.seen at.key at.part wrote.new.part (at.invariant.0.key_is on) at.invariant.2 wrote.ensures,
    )
