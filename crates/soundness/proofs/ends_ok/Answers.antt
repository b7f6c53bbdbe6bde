-- `soundness::ends_ok` meets its contract. Assumes nothing.
use mathlib.Core.Path.{ap}
use Prim.Native.Nat.{ℕ, ◌%◌}
use lib.Dec.{eqb}
use Rattle.store.specs.Walk.{ends_ok}
use Rattle.soundness.proofs.ends_ok.Goals as goal

pub returns : goal.returns
unfolding ends_ok
returns c = ap (λ (w : ℕ). eqb (c.args.key % w) (c.args.key % 8)) c.eights_of-w.ensures.power
