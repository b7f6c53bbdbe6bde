-- `listing::write_rows` meets its contract: it writes all that is wanted of both trees from the empty context on. Assumes nothing.
use mathlib.Core.Path.{sym, subst}
use mathlib.Core.List.{List}
use Prim.Native.Nat.{ℕ}
use lib.ListN.{length}
use Rattle.listing.specs.Writing.{WroteAt, rows_from, CanWrite}
use Rattle.weighing.proofs.Whole.{root_is}
use Rattle.listing.proofs.WholeSheet as whole
use Rattle.listing.proofs.write_rows.Goals as goal

pub invariant_of-listing : goal.invariant_of-listing
invariant_of-listing c =
    let x = c.args in
    record { readable = whole.root_readable x.desk x.held.n x.held.numbers.now c.requires.weighable x.kept.now c.requires.decided c.costs_of-costs.result c.costs_of-costs.ensures }

pub write_from-requires : goal.write_from-requires
write_from-requires c =
    let x = c.args in
    let costs = c.costs_of-costs in
    let w = c.requires.weighable in
    subst
    (λ (u : List ℕ). CanWrite x.desk costs.result x.held.n x.held.numbers.now x.kept.now (length x.sheet.now) u (whole.root_spot x.desk x.held.n x.held.numbers.now w) 0)
    (sym (root_is x.desk))
    (whole.root_can x.desk x.held.n x.held.numbers.now w x.kept.now x.sheet.now c.requires costs.result costs.ensures)

pub returns : goal.returns
returns c =
    let x = c.args in
    let w = c.requires.weighable in
    let g = c.write_from in
    whole.reported x.desk x.held.n x.held.numbers.now w x.sheet.now g.new.sheet g.result
    (subst
    (λ (u : List ℕ). WroteAt x.sheet.now g.new.sheet 0 (rows_from x.desk x.held.n x.held.numbers.now u (whole.root_spot x.desk x.held.n x.held.numbers.now w)) g.result)
    (root_is x.desk)
    g.ensures)
