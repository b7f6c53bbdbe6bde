-- `listing::put_here` meets its contract. Assumes nothing.
use Rattle.listing.proofs.Putting as putting
use Rattle.listing.proofs.put_here.Goals as goal

pub returns : goal.returns
returns c =
    let x = c.args in
    let h = x.here.now in
    let a = c.put_if-a in
    let b = c.put_if-b in
    let d = c.put_if in
    putting.put_all x.sheet.now x.to x.plan h.len h.code h.counts c.requires a.new.sheet a.result a.auto.sheet a.ensures b.new.sheet b.result b.auto.sheet b.ensures d.new.sheet d.result d.ensures
