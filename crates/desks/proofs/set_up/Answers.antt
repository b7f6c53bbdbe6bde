-- `desks::set_up` meets its contract. Assumes nothing.
use Rattle.desks.specs.Named.{naming_of}
use Rattle.changes.proofs.Laying.{opened_now}
use Rattle.desks.proofs.set_up.Goals as goal

pub returns : goal.returns
returns c =
    let x = c.args in
    let laid = c.lay_out in
    opened_now x.store.now x.desk (naming_of x.named) c.requires.0 c.requires.1 laid.new.part laid.ensures
