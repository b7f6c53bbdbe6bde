-- `recording::feed_records` meets its contract: the contexts that are held have got one more, and then the missing ones are added. Assumes nothing.
use native.Mathlib.Omega.{arith}
use Rattle.numbers.specs.Limits.{most_symbols, deepest}
use Rattle.contexts.proofs.Strings.{context_length}
use Rattle.recording.proofs.Raising.{raisable}
use Rattle.recording.proofs.Adding.{fed_held, growable, fed_written}
use Rattle.recording.proofs.feed_records.Goals as goal

pub raise_held-requires : goal.raise_held-requires
raise_held-requires c = rw c.index.ensures (raisable c.requires)

pub returns-then-recent-found : goal.returns-then-recent-found
returns-then-recent-found c =
    rw (c.raise_held.ensures, c.index.ensures) (fed_held c.requires c.if-recent-found.true)

pub bounds-places-found : goal.bounds-places-found
bounds-places-found c =
    omega (arith, context_length most_symbols deepest c.args.recent.now c.requires.feedable.asked.context, c.if-recent-found.false)

pub add_missing-requires : goal.add_missing-requires
add_missing-requires c =
    rw (c.raise_held.ensures, c.index.ensures) (growable c.requires c.if-recent-found.false)

pub returns : goal.returns
returns c =
    let added = c.add_missing in
    let raised = c.raise_held in
    let w = added.ensures in
    fed_written c.requires c.if-recent-found.false added.result added.new.numbers (rw (raised.ensures, c.index.ensures) at w)
