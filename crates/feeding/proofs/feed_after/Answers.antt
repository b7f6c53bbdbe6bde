-- `feeding::feed_after` meets its contract: refusal 10, or the store fed. Assumes nothing.
use Rattle.records.specs.Samples.{sample_index}
use Rattle.feeding.proofs.Answering.{then_asks, found, refused_past, write_asks, fed_kept}
use Rattle.feeding.proofs.feed_after.Goals as goal

pub seek_in-sought-requires : goal.seek_in-sought-requires
seek_in-sought-requires c =
    let x = c.args in
    then_asks x.store.now x.feed.desk (sample_index x.feed.sample) x.feed.symbol c.requires.0.0 x.recent.now c.requires.1 c.requires.0.1

pub is_past-requires : goal.is_past-requires
is_past-requires c =
    let x = c.args in
    found x.store.now x.feed.desk (sample_index x.feed.sample) x.feed.symbol c.requires.0.0 x.recent.now c.requires.1 c.requires.0.1 c.seek_in-sought.result.found c.seek_in-sought.result.places c.seek_in-sought.ensures.located

pub returns-then-is_past : goal.returns-then-is_past
returns-then-is_past c =
    let x = c.args in
    refused_past x.store.now x.feed.desk (sample_index x.feed.sample) x.feed.symbol c.requires.0.0 x.recent.now c.requires.1 c.requires.0.1 c.seek_in-sought.result.found c.seek_in-sought.result.places c.seek_in-sought.ensures.located
    c.is_past.result c.is_past.ensures c.if-is_past.true

pub write_feed-requires : goal.write_feed-requires
write_feed-requires c =
    let x = c.args in
    write_asks x.store.now x.feed.desk (sample_index x.feed.sample) x.feed.symbol c.requires.0.0 x.recent.now c.requires.1 c.requires.0.1 c.seek_in-sought.result.found c.seek_in-sought.result.places c.seek_in-sought.ensures.located
    c.is_past.result c.is_past.ensures c.if-is_past.false

pub returns : goal.returns
returns c =
    let wrote = c.write_feed in
    let x = c.args in
    fed_kept x.store.now x.feed.desk (sample_index x.feed.sample) x.feed.symbol c.requires.0.0 x.recent.now c.requires.1 c.requires.0.1 c.seek_in-sought.result.found c.seek_in-sought.result.places c.seek_in-sought.ensures.located
    c.is_past.result c.is_past.ensures c.if-is_past.false wrote.new.store wrote.ensures
