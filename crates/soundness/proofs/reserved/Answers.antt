-- `soundness::reserved` meets its contract: the sum over the desks so far. Assumes nothing.
use mathlib.Core.Path.{sym}
use native.Mathlib.Omega.{arith}
use Rattle.numbers.proofs.Sums.{sum_next, sum_none}
use Rattle.store.specs.Sound.{reserved_at}
use Rattle.soundness.proofs.reserved.Goals as goal

pub loop-desk-init : goal.loop-desk-init
loop-desk-init c = (omega arith, sym (sum_none (reserved_at c.args.header.store.now)))

pub loop-desk-preserved : goal.loop-desk-preserved
loop-desk-preserved c =
    let step = sum_next c.loop-desk.desk (reserved_at c.args.header.store.now) in
    (omega arith, omega arith)
