-- `sobumikeyo_room` meets its contract: the room question's answer, as numbers. Assumes nothing.
use Rattle.told.proofs.Telling.{room_refused, room_told}
use Rattle.sobumikeyo.proofs.sobumikeyo_room.Goals as goal

pub returns-in-Err : goal.returns-in-Err
returns-in-Err c =
    room_refused c.room_left.result c.room_left.ensures c.in-Err.is c.from.ensures

pub returns-in-Ok : goal.returns-in-Ok
returns-in-Ok c =
    room_told c.room_left.result c.room_left.ensures c.in-Ok.is
