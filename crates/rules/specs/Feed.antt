-- A feed: one more symbol of a sample (document 01, "Desks and the store"). Assumes nothing.
use Rattle.std.specs.Prelude.{ℕ, ◌+◌, Bool, cond, ◌&&◌, ◌||◌, List, [], ◌∷◌, take, eqb, leb, ltb}
use Rattle.numbers.specs.Limits.{longest}
use Rattle.numbers.specs.Sum.{one}
use Rattle.contexts.specs.Context.{begins}
use Rattle.contexts.specs.Sitting.{Sample, sample_of, same_sample, Progress, sat, contexts_held}
use Rattle.replay.specs.Room.{Opening}
use Rattle.replay.specs.Table.{Line, ◌when◌}

-- only places with at least so many symbols before them are counted: "only places from D+1 on, for every context of that sitting" (document 02, E3)
abbrev pub counted_from : Opening → ℕ
counted_from o = o.depth

-- "a desk opens with both samples empty"
abbrev pub empty_progress : Opening → Progress
empty_progress o = record { size = λ i. 0; recent = λ i. []; count = λ i s a. 0 }

-- the sitting after symbol a is fed to sample i: where its place is counted, each context that a follows gets one more count of a
unfoldable pub after_feed : Opening → Sample → ℕ → Progress → Progress
after_feed o i a p = record {
  size = λ j. p.size j + one (same_sample j i);
  recent = λ j. cond (same_sample j i) (take o.depth (a ∷ p.recent j)) (p.recent j);
  count = λ j s b. p.count j s b + one (same_sample j i && (leb (counted_from o) (p.size i) && (begins s (p.recent i) && eqb a b)));
}

-- "sample not 0 or 1, symbol not below A"
abbrev pub not_of_sitting : Opening → ℕ → ℕ → Bool
not_of_sitting o i a = ltb 1 i || leb o.symbols a

-- "sample already holds 2,048 symbols"
abbrev pub is_full : Progress → ℕ → Bool
is_full p i = leb longest (p.size (sample_of i))

-- "the feed would take the sitting past its reservation"
abbrev pub past_reservation : Opening → Progress → ℕ → ℕ → Bool
past_reservation o p i a = ltb o.reserve (contexts_held (sat o.symbols o.depth o.weight (after_feed o (sample_of i) a p)))

-- the refusals of a feed at an open desk
abbrev pub feed_lines : Opening → Progress → ℕ → ℕ → List Line
feed_lines o p i a =
    8 when not_of_sitting o i a
    ∷ 9 when is_full p i
    ∷ 10 when past_reservation o p i a
    ∷ []
