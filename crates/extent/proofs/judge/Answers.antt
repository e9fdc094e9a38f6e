-- `extent::judge` meets its contract: a trial of fields ends in one of four ways.
-- It requires a reading that goes on no further back than it began, and a flag that is right.
use mathlib.Core.Path.{refl}
use Rattle.extent.proofs.Trials.{raw_ok, raw_err, accepted, not_closed, cut_off, no_frame}
use Rattle.extent.proofs.judge.Goals as goal

pub returns-then-is_closed : goal.returns-then-is_closed
returns-then-is_closed c =
    λ g e. accepted _ _ _ (raw_ok _ _ g e c.in-Ok.is) c.is_closed.ensures c.if-is_closed.true refl

pub returns-else-is_closed : goal.returns-else-is_closed
returns-else-is_closed c =
    λ g e.
    not_closed _ _ _ (raw_ok c.args.frame _ g e c.in-Ok.is) c.is_closed.ensures
    c.if-is_closed.false c.get_restore_point-start.ensures c.rejected.ensures

pub returns-in-Cut : goal.returns-in-Cut
returns-in-Cut c = λ g e. cut_off _ _ (raw_err c.args.frame _ g e c.in-Err.is c.in-Cut.is) c.without_numbers.ensures

pub returns-in-Corrupt : goal.returns-in-Corrupt
returns-in-Corrupt c =
    λ g e. no_frame _ _ _ (raw_err c.args.frame _ g e c.in-Err.is c.in-Corrupt.is) c.get_restore_point-start.ensures c.rejected-in-Corrupt.ensures
