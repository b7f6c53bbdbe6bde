-- `desks::close` meets its contract: stopped at the door, or the desk is shut. Assumes nothing.
use Rattle.std.proofs.lemmas.Result.{err_from_is_err_and}
use Rattle.calls.proofs.Keeping.{moves_stopped}
use Rattle.changes.proofs.Shutting.{closed_moves}
use Rattle.desks.proofs.close.Goals as goal

pub returns-in_err-open_desk : goal.returns-in_err-open_desk
returns-in_err-open_desk c =
    let p = err_from_is_err_and c.from_residual.result c.from_residual.ensures.1 in
    rw (p.1, p.2) (moves_stopped _ _ _ c.in_err-open_desk.ensures.closes)

pub returns : goal.returns
returns c =
    let found = c.in_ok-open_desk.ensures in
    closed_moves _ _ _ found.sound found.at_open c.shut.ensures
