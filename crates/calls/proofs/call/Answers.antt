-- `calls::call` meets its contract: what the check refuses is refused, and a walk that passes it is admitted, so that a step from it, with no search saved
-- at first, is the call. Assumes nothing.
use Rattle.extent.proofs.Flag.{barren_false}
use Rattle.section.proofs.Admitted.{check_passes}
use Rattle.section.proofs.Checks.{check_is}
use Rattle.section.proofs.Looks.{first_passes, first_refused}
use Rattle.calls.proofs.call.Goals as goal

pub step-requires : goal.step-requires
step-requires c = record { w_admitted = check_passes _ _ _ _ c.check.ensures c.in-Ok.is; barren = barren_false _ _ }

pub returns-in-Ok : goal.returns-in-Ok
returns-in-Ok c = first_passes _ _ _ (check_is _ _ _ _ c.check.ensures) c.in-Ok.is c.step.ensures.tells

pub returns-in-Err : goal.returns-in-Err
returns-in-Err c = first_refused _ _ _ (check_is _ _ _ _ c.check.ensures) c.in-Err.is (c.refused.ensures _)
