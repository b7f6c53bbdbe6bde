-- `entering::note_at` meets its contract. Assumes nothing.
use Rattle.records.specs.Samples.{sample_index}
use Rattle.records.proofs.Samples.{one_of_two}
use Rattle.contexts.specs.Sitting.{sample_of}
use Rattle.changes.proofs.Numbering.{size_number, recent_number, desk_places}
use Rattle.entering.proofs.note_at.Goals as goal

pub note-requires : goal.note-requires
note-requires c =
    let x = c.args in
    let p = c.requires in
    let one = one_of_two x.feed.sample in
    rw (c.index-i.ensures, size_number (sample_index x.feed.sample) one, recent_number (sample_index x.feed.sample) one) (desk_places x.store.now x.feed.desk (sample_of (sample_index x.feed.sample)) p.0 p.1, p.2)

pub returns : goal.returns
returns c =
    let noted = c.note in
    let x = c.args in
    let one = one_of_two x.feed.sample in
    rw (c.index-i.ensures, size_number (sample_index x.feed.sample) one, recent_number (sample_index x.feed.sample) one) at noted.ensures
