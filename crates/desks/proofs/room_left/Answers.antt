-- `desks::room_left` meets its contract. Assumes nothing.
use mathlib.Core.Path.{◌≡◌, sym, ◌∙◌}
use mathlib.Core.Bool.{true}
use Rattle.replay.specs.Table.{answered}
use Rattle.replay.specs.Machine.{room_question}
use Rattle.rules.specs.Rules.{contexts_left}
use Rattle.store.specs.Sound.{soundb}
use Rattle.calls.proofs.Keeping.{asks_unsound, asks_answered}
use Rattle.changes.proofs.Leaving.{asked_room}
use Rattle.desks.proofs.room_left.Goals as goal
use Rattle.desks.proofs.room_left.Goals.{Then-sound}

passed : (c : Then-sound) → soundb c.args.store.now ≡ true
passed c = sym c.sound.ensures ∙ c.if-sound.true

pub returns-else-sound : goal.returns-else-sound
returns-else-sound c = asks_unsound c.args.store.now room_question (sym c.sound.ensures ∙ c.if-sound.false)

pub left_in-requires : goal.left_in-requires
left_in-requires c = passed c

pub returns-then-sound : goal.returns-then-sound
returns-then-sound c =
    let s = c.args.store.now in
    asks_answered s room_question (answered (contexts_left c.left_in.result)) (passed (goal.at.returns-then-sound c).Then-sound) (asked_room s c.left_in.result c.left_in.ensures)
