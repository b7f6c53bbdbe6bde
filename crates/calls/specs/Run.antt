-- A run of feeds to one sample: single feeds, one after the other, up to the first that is refused. Assumes nothing.
use Rattle.std.specs.Prelude.{ℕ, suc, ◌≡◌, true, false, List, [], ◌∷◌, length, drop}
use Rattle.contexts.specs.Sitting.{Progress}
use Rattle.replay.specs.Room.{Room}
use Rattle.replay.specs.Table.{Outcome, refused, answered}
use Rattle.replay.specs.Machine.{Call, asking, at_desk, verdict, move}
use Rattle.store.specs.Layout.{store_size, room}
use Rattle.store.specs.Sound.{soundb}
use Rattle.store.specs.Meaning.{meaning}
use Rattle.rules.specs.Rules.{Answer, feed, done, rules}

-- how many feeds were accepted, how they ended, and the room then
pub record FeedRun : Type 0 where
  pub accepted : ℕ
  pub ending : Outcome Answer
  pub room : Room Progress

-- a feed at ρ that got an outcome, and the run of those after it where it was accepted
unfoldable pub then_rest : Outcome Answer → Room Progress → FeedRun → FeedRun
then_rest (refused n) ρ rest = record { accepted = 0; ending = refused n; room = ρ }
then_rest (answered x) ρ rest = record { accepted = suc rest.accepted; ending = rest.ending; room = rest.room }

-- a feed of symbol a to sample k at desk d
abbrev pub feeding : ℕ → ℕ → ℕ → Call rules
feeding d k a = at_desk d (asking (feed k a))

-- the symbols fed in their order, each as a feed of its own
unfoldable pub fed_run : ℕ → ℕ → List ℕ → Room Progress → FeedRun
fed_run d k [] ρ = record { accepted = 0; ending = answered done; room = ρ }
fed_run d k (a ∷ rest) ρ = then_rest (verdict rules ρ (feeding d k a)) ρ (fed_run d k rest (move rules ρ (feeding d k a)))

-- a run on the numbers `before`, of which n feeds were accepted, that ended so and left `after`
pub record Runs (before : List ℕ) (d k : ℕ) (symbols : List ℕ) (n : ℕ) (o : Outcome Answer) (after : List ℕ) : Type 0 where
  -- "the lent store does not pass the soundness test"
  pub unsound : soundb before ≡ false → (n ≡ 0) × (o ≡ refused 1)
  -- otherwise it is that run of single feeds
  pub accepts : soundb before ≡ true → n ≡ (fed_run d k symbols (meaning before)).accepted
  pub ends : soundb before ≡ true → o ≡ (fed_run d k symbols (meaning before)).ending
  pub moves : soundb before ≡ true → meaning after ≡ (fed_run d k symbols (meaning before)).room
  pub stays_sound : soundb before ≡ true → soundb after ≡ true
  -- where no feed was accepted, every number is as before
  pub none_stays : n ≡ 0 → after ≡ before
  -- "only the first that many are ever written"
  pub past_stays : drop (store_size (room before)) after ≡ drop (store_size (room before)) before
  pub length_stays : length after ≡ length before
