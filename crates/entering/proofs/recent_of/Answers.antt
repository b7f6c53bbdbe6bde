-- `entering::recent_of` meets its contract: all six places of the sample. Assumes nothing.
use Rattle.std.proofs.Common.{arith, ap, length}
use Rattle.contexts.specs.Sitting.{sample_of}
use Rattle.records.specs.Samples.{sample_index}
use Rattle.store.proofs.Passing.{header_long}
use Rattle.store.proofs.Standing.{slots_long}
use Rattle.entering.proofs.recent_of.Goals as goal

pub invariant_of-numbers : goal.invariant_of-numbers
invariant_of-numbers c = record { there = (header_long c.args.store.now c.requires.0, c.requires.1.desk) }

pub numbers_at-symbols-requires : goal.numbers_at-symbols-requires
numbers_at-symbols-requires c =
    let x = c.args in
    let six = slots_long x.store.now x.desk (sample_of (sample_index x.sample)) c.requires.1.desk (header_long x.store.now c.requires.0) in
    (omega arith, omega (arith, ap length c.recent.ensures, six))
