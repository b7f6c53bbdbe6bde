-- `Held::place_of` meets its contract: the place is one of all. Assumes nothing.
use native.Mathlib.Omega.{arith}
use Rattle.records.proofs.Rising.{rank_within}
use Rattle.records.proofs.Held.place_of.Goals as goal

pub halve-requires : goal.halve-requires
halve-requires c =
    let x = c.args in
    record { standing = x.self.standing; from_low = omega arith; to_high = rank_within x.self.n x.self.numbers.now x.key; inside = omega arith }
