-- `entering::is_past` meets its contract: refusal 10. Assumes nothing.
use native.Mathlib.Omega.{arith}
use Rattle.store.proofs.Passing.{header_long}
use Rattle.entering.proofs.Asking.{none_past, few_places, spanned, sum_small, past_is}
use Rattle.entering.proofs.is_past.Goals as goal

pub returns-then-recent-found : goal.returns-then-recent-found
returns-then-recent-found c =
    let x = c.args in
    none_past x.store.now x.desk x.recent.now x.sought.found x.sought.places c.requires c.if-recent-found.true

pub bounds-store-1 : goal.bounds-store-1
bounds-store-1 c = omega (arith, header_long c.args.store.now c.requires.sound)

pub overflow_cast-n : goal.overflow_cast-n
overflow_cast-n c = omega (arith, c.type_inv.store 1)

pub slice_bounds-records-count : goal.slice_bounds-records-count
slice_bounds-records-count c = omega (arith, header_long c.args.store.now c.requires.sound)

pub slice_bounds-records-start : goal.slice_bounds-records-start
slice_bounds-records-start c = omega (arith, header_long c.args.store.now c.requires.sound)

pub bounds-places-found : goal.bounds-places-found
bounds-places-found c =
    let x = c.args in
    few_places x.store.now x.desk x.recent.now x.sought.found x.sought.places c.requires c.if-recent-found.false

pub invariant_of-held_by : goal.invariant_of-held_by
invariant_of-held_by c =
    let x = c.args in
    record { standing = (spanned x.store.now x.desk x.recent.now x.sought.found x.sought.places c.requires c.if-recent-found.false).standing }

pub held_by-held-requires : goal.held_by-held-requires
held_by-held-requires c =
    let x = c.args in
    spanned x.store.now x.desk x.recent.now x.sought.found x.sought.places c.requires c.if-recent-found.false

pub invariant_of-numbers : goal.invariant_of-numbers
invariant_of-numbers c = record { there = (header_long c.args.store.now c.requires.sound, c.requires.at_open.desk) }

pub overflow_add-result : goal.overflow_add-result
overflow_add-result c =
    let x = c.args in
    omega (arith, sum_small x.store.now x.desk x.recent.now x.sought.found x.sought.places c.requires c.if-recent-found.false c.held_by-held.result c.reserve-reserve.result c.held_by-held.ensures c.reserve-reserve.ensures)

pub returns : goal.returns
returns c =
    let x = c.args in
    past_is x.store.now x.desk x.recent.now x.sought.found x.sought.places c.requires c.if-recent-found.false c.held_by-held.result c.reserve-reserve.result c.held_by-held.ensures c.reserve-reserve.ensures
