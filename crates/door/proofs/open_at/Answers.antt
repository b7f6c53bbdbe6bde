-- `door::open_at` meets its contract: the two lines of the table. Assumes nothing.
use Rattle.std.proofs.Common.{sym, ◌∙◌}
use Rattle.store.proofs.Passing.{header_long}
use Rattle.door.proofs.Stopping.{stops_no_desk, stops_shut}
use Rattle.door.proofs.open_at.Goals as goal

pub returns-then-at-ge-DESKS : goal.returns-then-at-ge-DESKS
returns-then-at-ge-DESKS c = stops_no_desk c.args.store.now c.args.desk c.requires c.if-at-ge-DESKS.true

pub invariant_of-numbers : goal.invariant_of-numbers
invariant_of-numbers c = record { there = (header_long c.args.store.now c.requires, c.if-at-ge-DESKS.false) }

pub returns-then-not-is_open : goal.returns-then-not-is_open
returns-then-not-is_open c =
    stops_shut c.args.store.now c.args.desk c.requires c.if-at-ge-DESKS.false (sym c.is_open.ensures ∙ c.if-not-is_open.true)
