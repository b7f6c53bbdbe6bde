-- `entering::seek_in` meets its contract. Assumes nothing.
use native.Mathlib.Omega.{arith}
use Rattle.store.proofs.Passing.{header_long}
use Rattle.entering.proofs.Asking.{lent_askable, sought_in}
use Rattle.entering.proofs.seek_in.Goals as goal

pub bounds-store-1 : goal.bounds-store-1
bounds-store-1 c = omega (arith, header_long c.args.store.now c.requires.0)

pub overflow_cast-n : goal.overflow_cast-n
overflow_cast-n c = omega (arith, c.type_inv.store 1)

pub slice_bounds-numbers-count : goal.slice_bounds-numbers-count
slice_bounds-numbers-count c = omega (arith, header_long c.args.store.now c.requires.0)

pub slice_bounds-numbers-start : goal.slice_bounds-numbers-start
slice_bounds-numbers-start c = omega (arith, header_long c.args.store.now c.requires.0)

pub invariant_of-seek : goal.invariant_of-seek
invariant_of-seek c =
    let x = c.args in
    record { standing = (lent_askable x.store.now x.desk x.recent.now c.requires.1).standing }

pub seek-requires : goal.seek-requires
seek-requires c =
    let x = c.args in
    lent_askable x.store.now x.desk x.recent.now c.requires.1

pub returns : goal.returns
returns c =
    let x = c.args in
    sought_in x.store.now x.desk x.recent.now c.seek.result.found c.seek.result.places c.seek.ensures
