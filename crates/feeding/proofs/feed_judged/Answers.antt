-- `feeding::feed_judged` meets its contract: the header alone is written where the place is not counted. Assumes nothing.
use mathlib.Core.Path.{sym, ◌∙◌}
use Rattle.records.specs.Samples.{sample_index}
use Rattle.feeding.proofs.Answering.{header_asks, header_kept}
use Rattle.feeding.proofs.feed_judged.Goals as goal

pub feed_counted-requires : goal.feed_counted-requires
feed_counted-requires c =
    (c.requires, sym c.is_counted.ensures ∙ c.if-is_counted.true)

pub write_header-requires : goal.write_header-requires
write_header-requires c =
    let x = c.args in
    header_asks x.store.now x.feed.desk (sample_index x.feed.sample) x.feed.symbol c.requires (sym c.is_counted.ensures ∙ c.if-is_counted.false)

pub returns : goal.returns
returns c =
    let wrote = c.write_header in
    let x = c.args in
    header_kept x.store.now x.feed.desk (sample_index x.feed.sample) x.feed.symbol c.requires (sym c.is_counted.ensures ∙ c.if-is_counted.false) wrote.new.store wrote.ensures
