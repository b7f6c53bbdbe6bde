-- `write_from` meets its contract, by recursion on the symbols left below the context. Assumes nothing.
use Prim.Native.Nat.{◌-◌}
use Rattle.contexts.specs.Keys.{context_of}
use Rattle.listing.proofs.Onward.{Onward}
use Rattle.listing.proofs.Listing.+write_from.Given as goal

abbrev pub decreases-write_from : goal.decreases-write_from
decreases-write_from l = l.spot.left

abbrev pub invariant-loop : goal.invariant-loop
invariant-loop l =
    Onward l.self.desk l.self.held.n l.self.held.numbers.now (context_of l.spot.key) (l.spot.left - 1) l.span l.spot.power l.way l.initial.past l.counter l.key l.code l.initial.sheet l.sheet l.past
