-- `feeding::feed` meets its contract. Assumes nothing.
use mathlib.Core.Path.{sym, ◌∙◌}
use Rattle.calls.proofs.Keeping.{moves_unsound}
use Rattle.feeding.proofs.feed.Goals as goal

pub feed_sound-requires : goal.feed_sound-requires
feed_sound-requires c = sym c.sound.ensures ∙ c.if-sound.true

pub returns : goal.returns
returns c =
    let x = c.args in
    moves_unsound x.store.now _ (sym c.sound.ensures ∙ c.if-sound.false)
