-- `entering::write_feed` meets its contract. Assumes nothing.
use native.Mathlib.Omega.{arith}
use borrow.Author.Rules.{rules}
use Rattle.records.specs.Samples.{sample_index}
use Rattle.records.proofs.Samples.{one_of_two}
use Rattle.store.proofs.Passing.{header_long}
use Rattle.entering.proofs.Writing.{lent_ready, count_fits, note_asks, written}
use Rattle.entering.proofs.write_feed.Goals as goal

pub bounds-store-1 : goal.bounds-store-1
bounds-store-1 c = omega (arith, header_long c.args.store.now c.requires.0.sound)

pub overflow_cast-many : goal.overflow_cast-many
overflow_cast-many c = omega (arith, c.type_inv.store 1)

pub slice_bounds-body-count : goal.slice_bounds-body-count
slice_bounds-body-count c = omega (arith, header_long c.args.store.now c.requires.0.sound)

pub slice_bounds-body-start : goal.slice_bounds-body-start
slice_bounds-body-start c = omega (arith, header_long c.args.store.now c.requires.0.sound)

pub feed_records-count-requires : goal.feed_records-count-requires
feed_records-count-requires c =
    let x = c.args in
    lent_ready x.store.now x.feed.desk (sample_index x.feed.sample) x.feed.symbol c.requires.0 (one_of_two x.feed.sample) x.recent.now c.requires.1 c.requires.3 x.sought.found x.sought.places c.requires.2

pub overflow_cast-count : goal.overflow_cast-count
overflow_cast-count c =
    let x = c.args in
    let fed = c.feed_records-count in
    omega (arith, count_fits x.store.now x.feed.desk (sample_index x.feed.sample) x.feed.symbol c.requires.0 (one_of_two x.feed.sample) x.recent.now c.requires.1 c.requires.3 fed.result fed.new.numbers (search rules) fed.ensures)

pub note_at-requires : goal.note_at-requires
note_at-requires c =
    let x = c.args in
    let fed = c.feed_records-count in
    note_asks x.store.now x.feed.desk (sample_index x.feed.sample) x.feed.symbol c.requires.0 (one_of_two x.feed.sample) x.recent.now c.requires.1 c.requires.3 fed.result fed.new.numbers (search rules) fed.ensures

pub returns : goal.returns
returns c =
    let x = c.args in
    let fed = c.feed_records-count in
    let noted = c.note_at in
    written x.store.now x.feed.desk (sample_index x.feed.sample) x.feed.symbol c.requires.0 (one_of_two x.feed.sample) x.recent.now c.requires.1 c.requires.3 fed.result fed.new.numbers (search rules) fed.ensures noted.new.store noted.ensures
