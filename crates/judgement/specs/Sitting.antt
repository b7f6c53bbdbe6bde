-- What the store stands for on the way: made, a desk opened, the first sample fed and then the second. Assumes nothing.
use Rattle.std.specs.Prelude.{ℕ, ◌≡◌, true, List}
use Rattle.contexts.specs.Sitting.{Progress}
use Rattle.replay.specs.Room.{Room, new}
use Rattle.replay.specs.Table.{Outcome, refused, answered}
use Rattle.replay.specs.Machine.{opening, at_desk, move}
use Rattle.store.specs.Sound.{soundb}
use Rattle.store.specs.Meaning.{meaning}
use Rattle.rules.specs.Rules.{Answer, rules}
use Rattle.calls.specs.Run.{FeedRun, fed_run}
use Rattle.sitting_file.specs.Samples.{first_of, second_of}
use Rattle.sitting_file.specs.declared.Shape.{Shape}
use Rattle.judgement.specs.Judgement.{room_made, opening_of}

-- "makes a store .. (K 256) .. opens desk 0 with r 256"
unfoldable pub seated : Shape → Room Progress
seated shape = move rules (new room_made) (at_desk 0 (opening (opening_of shape)))

-- a run, and the one after it where no feed of the first was refused
unfoldable pub followed_by : Outcome Answer → FeedRun → FeedRun → FeedRun
followed_by (refused n) one two = one
followed_by (answered x) one two = two

-- "feeds the first sample and then the second", up to the first feed that is refused
unfoldable pub fed_both : List ℕ → List ℕ → Room Progress → FeedRun
fed_both us vs ρ = let one = fed_run 0 0 us ρ in followed_by one.ending one (fed_run 0 1 vs one.room)

abbrev pub run_of : List ℕ → Shape → FeedRun
run_of file shape = fed_both (first_of file shape) (second_of file shape) (seated shape)

-- a sound store that stands for a room
pub record Means (store : List ℕ) (ρ : Room Progress) : Type 0 where
  pub sound : soundb store ≡ true
  pub room : meaning store ≡ ρ

-- a run of feeds has ended so, and left a store that stands for its room
pub record Feeds (ending : Outcome Answer) (store : List ℕ) (r : FeedRun) : Type 0 where
  pub ends : ending ≡ r.ending
  pub means : Means store r.room
