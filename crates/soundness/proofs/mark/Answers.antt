-- `soundness::mark` meets its contract. Assumes nothing.
use borrow.Author.Tests.{lt-ltb, le-ltb}
use Rattle.store.specs.Walk.{seen_mark}
use Rattle.soundness.proofs.mark.Goals as goal

pub returns-then-seen-gt0 : goal.returns-then-seen-gt0
unfolding seen_mark
returns-then-seen-gt0 c = rw (lt-ltb 0 c.args.seen c.if-seen-gt0.true)

pub returns-else-seen-gt0 : goal.returns-else-seen-gt0
unfolding seen_mark
returns-else-seen-gt0 c = rw (le-ltb 0 c.args.seen c.if-seen-gt0.false)
