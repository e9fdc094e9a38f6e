-- `log::say_settings` meets its contract: a short buffer, and one that gets what the log says. Assumes nothing.
use Rattle.dulimasca.proofs.Defining.{settings_short, settings_said}
use Rattle.dulimasca.proofs.Taken.{handed_on}
use Rattle.dulimasca.proofs.log.say_settings.Goals as goal

pub returns-in_err-room : goal.returns-in_err-room
returns-in_err-room c = rw (handed_on c.from_residual.ensures.1) (settings_short _ _ c.in_err-room.ensures)

pub returns : goal.returns
returns c = settings_said _ _ c.in_ok-room.ensures c.read-said.ensures c.put.ensures
