-- `weighing::choice_of` meets its contract. Assumes nothing.
use Rattle.std.proofs.Common.{arith}
use Rattle.std.proofs.lemmas.Grind.{common_steps}
use Rattle.weighing.specs.Trees.{choice}
use Rattle.weighing.proofs.choice_of.Goals as goal

pub returns-then-leaf-min : goal.returns-then-leaf-min
unfolding choice
returns-then-leaf-min c = grind (arith, common_steps)

pub returns-then-apart-split : goal.returns-then-apart-split
unfolding choice
returns-then-apart-split c = grind (arith, common_steps)

pub returns-else-apart-split : goal.returns-else-apart-split
unfolding choice
returns-else-apart-split c = grind (arith, common_steps)
