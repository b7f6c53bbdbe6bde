-- `feeding::feed_all` meets its contract. Assumes nothing.
use mathlib.Core.Path.{sym, ◌∙◌}
use Rattle.calls.proofs.Running.{run_unsound}
use Rattle.feeding.proofs.feed_all.Goals as goal

pub feed_run-requires : goal.feed_run-requires
feed_run-requires c = sym c.sound.ensures ∙ c.if-sound.true

pub returns : goal.returns
returns c =
    let x = c.args in
    run_unsound x.store.now x.desk x.sample x.symbols.now (sym c.sound.ensures ∙ c.if-sound.false)
