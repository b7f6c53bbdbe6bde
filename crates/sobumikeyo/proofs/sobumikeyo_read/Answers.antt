-- `sobumikeyo_read` meets its contract: the reader's answer, as numbers. Assumes nothing.
use Rattle.told.proofs.Telling.{read_refused, read_told}
use Rattle.sobumikeyo.proofs.sobumikeyo_read.Goals as goal

pub returns-in-Err : goal.returns-in-Err
returns-in-Err c =
    read_refused c.read.result c.read.ensures c.in-Err.is c.from.ensures

pub returns-in-Ok : goal.returns-in-Ok
returns-in-Ok c =
    read_told c.read.result c.read.ensures c.in-Ok.is
