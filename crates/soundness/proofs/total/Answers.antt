-- `soundness::total` meets its contract: the sum of the counts so far. Assumes nothing.
use mathlib.Core.Path.{◌≡◌, ◌∙◌}
use Prim.Native.Nat.{◌+◌}
use native.Mathlib.Omega.{arith}
use lib.ListN.{get_or}
use Rattle.soundness.proofs.Loops.{eight_gone, summing_start, summing_more}
use Rattle.soundness.proofs.total.Goals as goal

pub loop-count-init : goal.loop-count-init
loop-count-init c = summing_start _ _ c.requires

pub loop-count-preserved : goal.loop-count-preserved
loop-count-preserved c =
    let args = c.args in
    let i = c.loop-count.count-index in
    let read : c.from-seen.result ≡ get_or args.held.now (args.from + i) 0 = c.from-seen.ensures ∙ eight_gone args.from args.held.now i (omega arith) in
    rw read (summing_more args.held.now args.from c.loop-count.seen i c.loop-count.invariant (omega arith) (omega (arith, c.type_inv.held (args.from + i))))
