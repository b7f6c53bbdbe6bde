-- A feed: that a store which was fed keeps the promise of a feed. Assumes nothing.
use mathlib.Core.Path.{refl}
use mathlib.Core.List.{List}
use Prim.Native.Nat.{ℕ, ◌≤◌}
use Rattle.contexts.specs.Sitting.{sample_of}
use Rattle.replay.specs.Table.{answered}
use Rattle.replay.specs.Machine.{asking, at_desk}
use Rattle.rules.specs.Rules.{feed, done}
use Rattle.calls.specs.Promises.{Moves}
use Rattle.calls.proofs.Keeping.{moves_done}
use Rattle.changes.specs.FedStore.{FedStore, Acceptable}
use Rattle.changes.proofs.Sounding.{fed_sound}
use Rattle.changes.proofs.Moving.{fed_meaning}
use Rattle.changes.proofs.Judging.{accepted}

-- THEOREM. A store to which an acceptable symbol was fed keeps the promise of a feed
pub fed_moves : (s t : List ℕ) (d k a : ℕ) → k ≤ 1 → Acceptable s d (sample_of k) a → FedStore s t d (sample_of k) a → Moves s (at_desk d (asking (feed k a))) (answered done) t
fed_moves s t d k a one p f =
    moves_done s (at_desk d (asking (feed k a))) done t p.sound
    (accepted s d k a p.at_open one p.of_alphabet_holds p.not_full p.sound p.reserved)
    (fed_sound s t d (sample_of k) a f p)
    (fed_meaning s t d (sample_of k) a f p k refl)
    f.past_same
    f.length_same
