-- `Held::halve` meets its contract: the records part where the key stands. Assumes nothing.
use Prim.Native.Nat.{◌/◌}
use native.Mathlib.Omega.{arith}
use borrow.Author.Rules.{rules}
use lib.ListN.{length}
use Rattle.std.proofs.lemmas.List.Sorted.{IsPartitionPoint-from_clause}
use Rattle.records.specs.Records.{width}
use Rattle.records.proofs.Halving.{smaller, placed_in}
use Rattle.records.proofs.Held.halve.Goals as goal

pub returns : goal.returns
returns c =
    let x = c.args in
    let within = c.requires.standing.fits in
    placed_in x.key x.self.n x.bounds.low x.bounds.high x.self.numbers.now c.requires (length x.self.numbers.now / width) (omega arith)
    c.as_chunks.result.0.now c.as_chunks.ensures.front c.partition_point.result c.partition_point.ensures.bound
    (λ parted. IsPartitionPoint-from_clause (smaller x.key) _ c.partition_point.result c.partition_point.ensures.partitioned parted (λ a r f called. search rules))
