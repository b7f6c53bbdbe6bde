-- `answering::feed_both` meets its contract: the first sample's run, and the second's where the first is whole. Assumes nothing.
use Rattle.std.proofs.lemmas.Result.{err_from_is_err_and}
use Rattle.judgement.proofs.Seating.{first_stops, second_ends}
use Rattle.answering.proofs.feed_both.Goals as goal

pub returns-in_err-feed_all : goal.returns-in_err-feed_all
returns-in_err-feed_all c =
    let p = err_from_is_err_and c.from_residual.result c.from_residual.ensures.1 in
    rw (p.1, p.2) (first_stops _ _ _ _ c.requires _ _ (rw (c.in_err-feed_all.was) at c.feed_all.ensures))

pub returns : goal.returns
returns c =
    second_ends _ _ _ _ c.requires _ _ _ _ (rw (c.in_ok-feed_all.was) at c.feed_all.ensures) c.feed_all-2.ensures
