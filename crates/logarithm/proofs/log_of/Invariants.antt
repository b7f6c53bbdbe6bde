-- `log_of` meets its contract. The loop's invariant: what is left of the test of `Squaring` passes, and k grows. Assumes nothing.
use Prim.Native.Nat.{◌-◌, ◌<◌}
use Rattle.logarithm.proofs.Squaring.{mark, Passing}
use Rattle.logarithm.proofs.log_of.Given as goal

abbrev pub invariant-loop-k : goal.invariant-loop-k
invariant-loop-k l = (0 < l.k) × Passing l.n l.lead l.k

abbrev pub decreases-loop-k : goal.decreases-loop-k
decreases-loop-k l = mark - l.k
