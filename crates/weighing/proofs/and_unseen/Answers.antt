-- `weighing::and_unseen` meets its contract. Assumes nothing.
use Rattle.weighing.proofs.and_unseen.Goals as goal

pub and_child-requires : goal.and_child-requires
and_child-requires c = c.requires.fits c.as_leaf.result c.as_leaf.ensures
