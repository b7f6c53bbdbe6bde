-- `Held::reach` meets its contract: the place is not before `low`. Assumes nothing.
use Prim.Native.Nat.{◌≤◌, ◌-◌}
use Rattle.records.specs.Records.{records, keys}
use Rattle.records.specs.Held.{rank}
use Rattle.records.proofs.Held.reach.Given as goal

abbrev pub invariant-loop-at : goal.invariant-loop-at
invariant-loop-at l = (l.low ≤ rank l.key (keys (records l.self.n l.self.numbers.now))) × (l.from ≤ l.at)

abbrev pub decreases-loop-at : goal.decreases-loop-at
decreases-loop-at l = l.self.n - l.at
