-- `log_of` meets its contract. The loop's invariant: what is left of the test of `Squaring` passes, and k grows. Assumes nothing.
use native.Mathlib.Omega.{arith}
use Rattle.logarithm.proofs.Squaring.{starts, turn, done}
use Rattle.logarithm.proofs.log_of.Goals as goal

pub loop-k-init : goal.loop-k-init
loop-k-init c = let start = starts c.args.n c.requires.0 c.requires.1 in (omega (arith, start.zeros_small), start.run)

pub overflow_mul-square : goal.overflow_mul-square
overflow_mul-square c = record { fits = (turn _ _ _ c.loop-k.invariant.1 (omega (arith, c.loop-k-test.true))).square_small }

pub overflow_shr-lead-in-loop-k : goal.overflow_shr-lead-in-loop-k
overflow_shr-lead-in-loop-k c = omega (arith, (turn _ _ _ c.loop-k.invariant.1 (omega (arith, c.loop-k-test.true))).square_small)

pub overflow_cast-k : goal.overflow_cast-k
overflow_cast-k c = omega (arith, (turn _ _ _ c.loop-k.invariant.1 (omega (arith, c.loop-k-test.true))).square_small)

pub overflow_add-k : goal.overflow_add-k
overflow_add-k c = omega (arith, c.loop-k-test.true, (turn _ _ _ c.loop-k.invariant.1 (omega (arith, c.loop-k-test.true))).square_small)

pub loop-k-preserved : goal.loop-k-preserved
loop-k-preserved c = let loop = c.loop-k in (omega (arith, loop.invariant.0), (turn _ _ _ loop.invariant.1 (omega (arith, c.loop-k-test.true))).rest)

pub returns : goal.returns
returns c = done _ _ _ c.requires.0 c.loop-k.invariant.1 (omega (arith, c.loop-k-test.false))
