-- `extent::try_event` meets its contract: a trial of an event ends in one of four ways. Assumes a flag that is right.
use Rattle.extent.proofs.Trials.{event_ok, event_err, forward, accepted, not_closed, cut_off, no_frame}
use Rattle.extent.proofs.try_event.Goals as goal

pub overflow_sub-more : goal.overflow_sub-more
overflow_sub-more c = forward (event_ok _ _ c.read.ensures c.in-Ok.is)

pub returns-then-is_closed : goal.returns-then-is_closed
returns-then-is_closed c =
    accepted _ _ _ (event_ok _ _ c.read.ensures c.in-Ok.is) c.is_closed.ensures c.if-is_closed.true c.without_numbers.ensures

pub returns-else-is_closed : goal.returns-else-is_closed
returns-else-is_closed c =
    not_closed _ _ _ (event_ok _ _ c.read.ensures c.in-Ok.is) c.is_closed.ensures
    c.if-is_closed.false c.get_restore_point-start.ensures c.rejected.ensures

pub returns-in-Err-Cut : goal.returns-in-Err-Cut
returns-in-Err-Cut c = cut_off _ _ (event_err _ _ c.read.ensures c.in-Err-Cut.is c.in-Err-Cut.field-0-is) c.without_numbers-in-Err-Cut.ensures

pub returns-in-Err-Corrupt : goal.returns-in-Err-Corrupt
returns-in-Err-Corrupt c =
    no_frame _ _ _ (event_err _ _ c.read.ensures c.in-Err-Corrupt.is c.in-Err-Corrupt.field-0-is)
    c.get_restore_point-start.ensures c.rejected-in-Err-Corrupt.ensures
