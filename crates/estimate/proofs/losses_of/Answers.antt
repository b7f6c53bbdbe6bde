-- `estimate::losses_of` meets its contract. Assumes nothing.
use Rattle.estimate.proofs.Adding as adding
use Rattle.estimate.proofs.losses_of.Goals as goal

pub spread_of-requires : goal.spread_of-requires
spread_of-requires c =
    let g = c.sums_of-sums in
    let h = adding.shared_able c.args.counts c.requires.0 g.result g.ensures in
    h

pub spread_of-requires-2 : goal.spread_of-requires-2
spread_of-requires-2 c =
    let g = c.sums_of-sums in
    let h = adding.first_able c.args.counts c.requires.0 g.result g.ensures in
    h

pub spread_of-requires-3 : goal.spread_of-requires-3
spread_of-requires-3 c =
    let g = c.sums_of-sums in
    let h = adding.second_able c.args.counts c.requires.0 g.result g.ensures in
    h

pub returns : goal.returns
returns c =
    let g = c.sums_of-sums in
    adding.losses_are c.args.counts c.requires.0 g.result g.ensures c.args.costs c.add.result c.spread_of.result c.spread_of-2.result c.spread_of-3.result c.add.ensures
    c.spread_of.ensures.0 c.spread_of-2.ensures.0 c.spread_of-3.ensures.0
