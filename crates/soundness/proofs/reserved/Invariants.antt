-- `soundness::reserved` meets its contract: the sum over the desks so far. Assumes nothing.
use mathlib.Core.Path.{◌≡◌}
use Prim.Native.Nat.{◌≤◌, ◌*◌}
use Rattle.numbers.specs.Sum.{sum}
use Rattle.store.specs.Sound.{reserved_at}
use Rattle.soundness.proofs.reserved.Given as goal

abbrev pub invariant-loop-desk : goal.invariant-loop-desk
invariant-loop-desk l = (l.all ≤ 4294967296 * l.desk) × (l.all ≡ sum l.desk (reserved_at l.header.store.now))
