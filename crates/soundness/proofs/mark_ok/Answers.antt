-- `soundness::mark_ok` meets its contract. Assumes nothing.
use borrow.Author.Tests.{eq-eqb, ne_eqb}
use Rattle.store.specs.Walk.{mark_ok}
use Rattle.soundness.proofs.mark_ok.Goals as goal

pub returns-then-seen-eq0 : goal.returns-then-seen-eq0
unfolding mark_ok
returns-then-seen-eq0 c = rw (eq-eqb c.args.seen 0 c.if-seen-eq0.true)

pub returns-else-seen-eq0 : goal.returns-else-seen-eq0
unfolding mark_ok
returns-else-seen-eq0 c = rw (ne_eqb c.args.seen 0 c.if-seen-eq0.false)
