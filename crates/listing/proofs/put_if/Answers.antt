-- `listing::put_if` meets its contract. Assumes nothing.
use native.Mathlib.Omega.{arith}
use Rattle.rows.specs.Members.{number}
use Rattle.rows.specs.Kinds.{kind_told}
use Rattle.listing.proofs.Putting.{if_long, if_one}
use Rattle.listing.proofs.put_if.Goals as goal

pub returns : goal.returns
returns c =
    let x = c.args in
    let h = x.here.now in
    let on = c.if-not-on.false in
    if_one x.sheet.now c.put_row.new.part x.to x.on (number (kind_told x.kind)) h.len h.code h.counts on
    (omega (arith, c.requires.room, if_long x.on (number (kind_told x.kind)) h.len h.code h.counts on)) (rw (← c.from.ensures) c.put_row.ensures)
