-- `Held::reach` meets its contract: the place is not before `low`. Assumes nothing.
use native.Mathlib.Omega.{arith}
use Rattle.records.proofs.Rising.{rank_within, above_middle, up_to_middle}
use Rattle.records.proofs.Held.reach.Goals as goal

pub loop-at-init : goal.loop-at-init
loop-at-init c = (c.requires.no_later, omega arith)

pub returns-then-key-self : goal.returns-then-key-self
returns-then-key-self c =
    let loop = c.loop-at in
    let x = c.args in
    record {
      standing = c.requires.standing;
      from_low = loop.invariant.0;
      to_high = up_to_middle x.self.n loop.at x.key x.self.numbers.now (omega arith) c.if-key-self.true;
      inside = omega arith;
    }

pub loop-at-preserved : goal.loop-at-preserved
loop-at-preserved c =
    let loop = c.loop-at in
    let x = c.args in
    let more = above_middle x.self.n loop.at x.key x.self.numbers.now (omega arith) c.requires.standing.rising c.if-key-self.false in
    (omega arith, omega arith)

pub returns : goal.returns
returns c =
    let loop = c.loop-at in
    let x = c.args in
    record { standing = c.requires.standing; from_low = loop.invariant.0; to_high = rank_within x.self.n x.self.numbers.now x.key; inside = omega arith }
