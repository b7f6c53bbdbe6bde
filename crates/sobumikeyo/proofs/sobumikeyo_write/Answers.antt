-- `sobumikeyo_write` meets its contract: the writer's answer, as numbers. Assumes nothing.
use Rattle.told.proofs.Telling.{write_refused, write_told}
use Rattle.sobumikeyo.proofs.sobumikeyo_write.Goals as goal

pub returns-in-Err : goal.returns-in-Err
returns-in-Err c =
    write_refused c.write.result c.write.ensures c.in-Err.is c.from.ensures

pub returns-in-Ok : goal.returns-in-Ok
returns-in-Ok c =
    write_told c.write.result c.write.ensures c.in-Ok.is
