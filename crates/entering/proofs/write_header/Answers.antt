-- `entering::write_header` meets its contract. Assumes nothing.
use native.Mathlib.Omega.{arith}
use Rattle.records.specs.Samples.{sample_index}
use Rattle.records.proofs.Samples.{one_of_two}
use Rattle.store.proofs.Passing.{header_long}
use Rattle.entering.proofs.Writing.{header_asks, header_written}
use Rattle.entering.proofs.write_header.Goals as goal

pub bounds-store-1 : goal.bounds-store-1
bounds-store-1 c = omega (arith, header_long c.args.store.now c.requires.0.sound)

pub note_at-requires : goal.note_at-requires
note_at-requires c =
    let x = c.args in
    header_asks x.store.now x.feed.desk (sample_index x.feed.sample) x.feed.symbol c.requires.0 (one_of_two x.feed.sample) c.requires.1

pub returns : goal.returns
returns c =
    let x = c.args in
    let noted = c.note_at in
    header_written x.store.now x.feed.desk (sample_index x.feed.sample) x.feed.symbol c.requires.0 (one_of_two x.feed.sample) c.requires.1 noted.new.store noted.ensures
