-- `estimate::sums_of` meets its contract: the loop has the sums of the symbols passed. Assumes nothing.
use Rattle.estimate.proofs.Adding.{sums_none, sums_next, addable}
use Rattle.estimate.proofs.sums_of.Goals as goal

pub loop-a-init : goal.loop-a-init
loop-a-init c = sums_none _

pub and_symbol-sums-requires : goal.and_symbol-sums-requires
and_symbol-sums-requires c = addable c.args.counts c.requires c.loop-a.a c.loop-a.sums c.loop-a-test.true c.loop-a.invariant

pub loop-a-preserved : goal.loop-a-preserved
loop-a-preserved c = sums_next _ c.loop-a.a c.loop-a.sums c.and_symbol-sums.result c.loop-a.invariant c.and_symbol-sums.ensures
