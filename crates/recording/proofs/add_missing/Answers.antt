-- `recording::add_missing` meets its contract: the part behind the place is lent, and comes back with the new records at its front. Assumes nothing.
use borrow.Author.Rules.{rules}
use Rattle.recording.proofs.Adding.{grown_written}
use Rattle.recording.proofs.add_missing.Goals as goal

pub returns : goal.returns
returns c =
    let put = c.insert in
    grown_written c.requires put.new.part (search rules) put.ensures
