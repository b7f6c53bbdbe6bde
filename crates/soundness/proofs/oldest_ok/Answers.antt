-- `soundness::oldest_ok` meets its contract. Assumes nothing.
use mathlib.Core.Path.{ap}
use Prim.Native.Nat.{ℕ, ◌/◌, ◌%◌}
use lib.Dec.{ltb}
use Rattle.contexts.specs.Keys.{desk_span}
use Rattle.store.specs.Walk.{oldest_ok}
use Rattle.soundness.proofs.oldest_ok.Goals as goal

pub returns : goal.returns
unfolding oldest_ok
returns c = ap (λ (w : ℕ). ltb (c.args.key % desk_span / w % 8) c.args.a) c.eights_of-w.ensures.power
