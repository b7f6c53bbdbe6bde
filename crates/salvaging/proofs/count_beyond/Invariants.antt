-- `salvaging::count_beyond` is safe and ends: each turn but the last counts a piece. Assumes nothing.
use Prim.Native.Nat.{◌-◌}
use Rattle.salvage_input.specs.Filter.{most_told}
use Rattle.salvaging.proofs.count_beyond.Given as goal

abbrev pub decreases-loop-counted : goal.decreases-loop-counted
decreases-loop-counted g l = most_told - l.counted
