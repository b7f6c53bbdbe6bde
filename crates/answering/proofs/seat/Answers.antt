-- `answering::seat` meets its contract: the store is made, and the desk opens. Assumes nothing.
use Rattle.judgement.proofs.Seating.{seat_means}
use Rattle.answering.proofs.seat.Goals as goal

pub returns : goal.returns
returns c =
    seat_means _ _ _ _ _ _ c.requires c.make.ensures c.«open».ensures
