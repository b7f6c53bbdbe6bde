-- A feed at a store, as the code names it. Assumes nothing.
use Rattle.std.specs.Prelude.{List, ℕ, ◌≡◌, true}
use Rattle.replay.specs.Machine.{Call, at_desk, asking}
use Rattle.records.specs.Samples.{sample_index}
use Rattle.recording.specs.Feeds.{sample_fed}
use Rattle.recording.specs.declared.Feed.{Feed}
use Rattle.rules.specs.Rules.{feed, rules}
use Rattle.changes.specs.FedStore.{Judged, is_counted}

-- the call that it is
abbrev pub call_of : Feed → Call rules
call_of f = at_desk f.desk (asking (feed (sample_index f.sample) f.symbol))

-- refusals 1 to 9 leave it
abbrev pub JudgedFeed : List ℕ → Feed → Type 0
JudgedFeed s f = Judged s f.desk (sample_index f.sample) f.symbol

-- .. and its place is counted
abbrev pub CountedFeed : List ℕ → Feed → Type 0
CountedFeed s f = JudgedFeed s f × (is_counted s f.desk (sample_fed f) ≡ true)
