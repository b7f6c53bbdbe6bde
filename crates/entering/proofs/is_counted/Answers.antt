-- `entering::is_counted` meets its contract. Assumes nothing.
use Rattle.store.proofs.Passing.{header_long}
use Rattle.entering.proofs.is_counted.Goals as goal

pub invariant_of-numbers : goal.invariant_of-numbers
invariant_of-numbers c = record { there = (header_long c.args.store.now c.requires.0, c.requires.1.desk) }
