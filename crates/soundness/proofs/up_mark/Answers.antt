-- `soundness::up_mark` meets its contract: a key rounded down is at most the key, so nothing wraps. Assumes nothing.
use mathlib.Core.Path.{ap}
use Prim.Native.Nat.{ℕ, ◌+◌, ◌*◌, ◌/◌, ◌%◌}
use native.Mathlib.Omega.{arith}
use Rattle.store.specs.Walk.{up_mark}
use Rattle.soundness.proofs.Loops.{round_le, round_le'}
use Rattle.soundness.proofs.up_mark.Goals as goal

pub overflow_mul-result : goal.overflow_mul-result
overflow_mul-result c = omega (arith, round_le' c.args.key c.eights_of-w.result)

pub overflow_mul-result-2 : goal.overflow_mul-result-2
overflow_mul-result-2 c = omega (arith, round_le c.args.key c.eights_of-w.result)

pub overflow_add-result : goal.overflow_add-result
overflow_add-result c = omega (arith, round_le c.args.key c.eights_of-w.result)

pub returns : goal.returns
unfolding up_mark
returns c = ap (λ (w : ℕ). c.args.key / w / 8 * 8 * w + c.args.key % 8) c.eights_of-w.ensures.power
