-- `feeding::feed_run` meets its contract: after `done` accepted feeds what is left of the run decides. Assumes nothing.
use Rattle.std.proofs.Common.{arith, ◌≡◌, subst, ℕ, length}
use Rattle.replay.specs.Table.{answered}
use Rattle.rules.specs.Rules.{done}
use Rattle.calls.specs.Run.{Runs}
use Rattle.calls.proofs.Running.{ran_start, ran_on, ran_refused, ran_whole}
use Rattle.feeding.proofs.feed_run.Goals as goal

pub loop-done-init : goal.loop-done-init
loop-done-init c = ran_start _ _ _ _ c.requires

pub returns-in-Err : goal.returns-in-Err
returns-in-Err c =
    ran_refused _ _ _ _ _ _ c.loop-done.invariant _ _ c.requires (omega arith) (rw c.from.ensures at c.in-Err.ensures)

pub loop-done-preserved : goal.loop-done-preserved
loop-done-preserved c =
    ran_on _ _ _ _ _ _ c.loop-done.invariant _ (omega arith) (rw c.from.ensures at c.in_default.ensures)

pub returns : goal.returns
returns c =
    let x = c.args in
    let at = c.loop-done in
    let whole : at.done ≡ length x.symbols.now = omega arith in
    subst (λ (n : ℕ). Runs x.store.now x.desk x.sample x.symbols.now n (answered done) at.store) whole (ran_whole _ _ _ _ _ _ at.invariant c.requires (omega arith))
