-- `section::look` meets its contract: refusals first, and then one look. Assumes nothing.
use Rattle.section.proofs.Admitted.{check_passes}
use Rattle.section.proofs.Checks.{check_is}
use Rattle.section.proofs.Looks.{first_passes, first_refused}
use Rattle.section.proofs.look.Goals as goal

pub look_once-requires : goal.look_once-requires
look_once-requires c = check_passes _ _ _ _ c.check.ensures c.in-Ok.is

pub returns-in-Ok : goal.returns-in-Ok
returns-in-Ok c = first_passes _ _ _ (check_is _ _ _ _ c.check.ensures) c.in-Ok.is c.look_once.ensures

pub returns-in-Err : goal.returns-in-Err
returns-in-Err c = first_refused _ _ _ (check_is _ _ _ _ c.check.ensures) c.in-Err.is (c.refused.ensures _)
