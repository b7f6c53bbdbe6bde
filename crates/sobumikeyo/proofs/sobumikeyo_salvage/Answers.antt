-- `sobumikeyo_salvage` meets its contract: the salvage's answer, as numbers. Assumes nothing.
use Rattle.told.proofs.Saving.{salvage_refused, salvage_told}
use Rattle.sobumikeyo.proofs.sobumikeyo_salvage.Goals as goal

pub returns-in-Err : goal.returns-in-Err
returns-in-Err c =
    salvage_refused c.salvage.result c.salvage.ensures c.in-Err.is c.from.ensures

pub returns-in-Ok : goal.returns-in-Ok
returns-in-Ok c =
    salvage_told c.salvage.result c.salvage.ensures c.in-Ok.is
