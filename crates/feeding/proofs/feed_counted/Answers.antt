-- `feeding::feed_counted` meets its contract: what was copied is as long as it says. Assumes nothing.
use mathlib.Core.Path.{◌≡◌, sym}
use Prim.Native.Nat.{◌≤◌}
use lib.ListN.{length, take}
use lib.Seq.{length-take-le}
use Rattle.records.specs.Samples.{sample_index}
use Rattle.contexts.specs.Sitting.{sample_of}
use Rattle.changes.specs.FedStore.{recent_at}
use Rattle.entering.proofs.Copying.{copied_recent}
use Rattle.feeding.proofs.feed_counted.Goals as goal
use Rattle.feeding.proofs.feed_counted.Goals.{After-recent_of-latest}

-- the first `many` of the six places are the recent symbols
latest : (c : After-recent_of-latest) → (let r = c.recent_of-latest.result in let x = c.args in
    (r.many ≤ length r.symbols) × (take r.many r.symbols ≡ recent_at x.store.now x.feed.desk (sample_of (sample_index x.feed.sample))))
latest c =
    let r = c.recent_of-latest.result in
    let x = c.args in
    copied_recent x.store.now x.feed.desk (sample_index x.feed.sample) c.requires.0.sound c.requires.0.at_open c.requires.0.of_samples c.requires.1 r.many r.symbols c.recent_of-latest.ensures

pub slice_bounds-symbols-end : goal.slice_bounds-symbols-end
slice_bounds-symbols-end c = (latest (goal.at.slice_bounds-symbols-end c).After-recent_of-latest).0

pub slice_bounds-feed_after-end : goal.slice_bounds-feed_after-end
slice_bounds-feed_after-end c =
    sym (length-take-le c.recent_of-latest.result.many c.recent_of-latest.result.symbols (latest (goal.at.slice_bounds-feed_after-end c).After-recent_of-latest).0)

pub feed_after-requires : goal.feed_after-requires
feed_after-requires c =
    (c.requires, (latest (goal.at.feed_after-requires c).After-recent_of-latest).1)
