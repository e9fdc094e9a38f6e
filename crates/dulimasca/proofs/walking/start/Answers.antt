-- `walking::start` meets its contract: short buffers are refused, any other holds the walk that has not begun. Assumes nothing.
use Rattle.dulimasca.proofs.Counting.{start_short, start_untold, start_put}
use Rattle.dulimasca.proofs.Replying.{long_enough}
use Rattle.dulimasca.proofs.Taken.{handed_on}
use Rattle.dulimasca.proofs.walking.start.Goals as goal

pub returns-in_err-room : goal.returns-in_err-room
returns-in_err-room c = rw (handed_on c.from_residual.ensures.1) (start_short _ _ c.in_err-room.ensures)

pub returns-in_err-room-2 : goal.returns-in_err-room-2
returns-in_err-room-2 c = rw (handed_on c.from_residual-in_err-room-2.ensures.1) (start_untold _ _ c.in_ok-room.ensures c.in_err-room-2.ensures)

pub tell-requires : goal.tell-requires
tell-requires c = long_enough _ _ c.in_ok-room-2.ensures

pub returns : goal.returns
returns c = start_put _ _ c.in_ok-room.ensures c.in_ok-room-2.ensures c.start.ensures c.put.ensures c.tell.ensures
