-- `walks::fill` meets its contract: where the check passes, the walk goes to the frame; any other call is refused. Assumes nothing.
use Rattle.section.proofs.Admitted.{check_passes}
use Rattle.walks.proofs.Whole.{fill_passed, fill_refused}
use Rattle.walks.proofs.fill.Goals as goal

pub walk_to-requires : goal.walk_to-requires
walk_to-requires c = (check_passes _ _ _ _ c.check.ensures c.in-Ok.is).0

pub returns-in-Ok : goal.returns-in-Ok
returns-in-Ok c = fill_passed _ _ _ c.start-w.ensures _ _ _ c.check.ensures _ c.in-Ok.is c.walk_to.ensures

pub returns-in-Err : goal.returns-in-Err
returns-in-Err c = fill_refused _ _ _ c.start-w.ensures _ _ _ c.check.ensures c.refused.result c.in-Err.is c.refused.ensures
