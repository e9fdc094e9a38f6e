-- `walking::lay_rows` meets its contract: no definition, no state, a refusal, no room for the numbers, rows and the walk behind them. Assumes nothing.
use Rattle.dulimasca.proofs.Giving.{rows_no_definition, rows_no_state, rows_unchecked, rows_untold, rows_refused, rows_given}
use Rattle.dulimasca.proofs.Taken.{handed_on}
use Rattle.dulimasca.proofs.walking.lay_rows.Goals as goal

pub returns-in_err-d : goal.returns-in_err-d
returns-in_err-d c = rw (handed_on c.from_residual.ensures.1) (rows_no_definition _ _ _ _ _ c.in_err-d.ensures)

pub returns-in_err-w : goal.returns-in_err-w
returns-in_err-w c = rw (handed_on c.from_residual-in_err-w.ensures.1) (rows_no_state _ _ _ _ _ c.in_ok-d.ensures c.in_err-w.ensures)

pub returns-in_err-check : goal.returns-in_err-check
returns-in_err-check c =
    rw (handed_on c.from_residual-in_err-check.ensures.1) (rows_unchecked _ _ _ _ _ c.in_ok-d.ensures c.in_ok-w.ensures _ c.in_err-check.ensures)

pub returns-then-told-lt-TOLD : goal.returns-then-told-lt-TOLD
returns-then-told-lt-TOLD c = rows_untold _ _ _ _ _ c.in_ok-d.ensures c.in_ok-w.ensures _ c.in_ok-check.ensures c.if-told-lt-TOLD.true

pub returns-in-Ok : goal.returns-in-Ok
returns-in-Ok c =
    rows_given _ _ _ _ _ c.in_ok-d.ensures c.in_ok-w.ensures c.if-told-lt-TOLD.false _ c.in-Ok.ensures c.put.ensures c.tally_numbers.ensures
    c.tell.ensures c.status_by.ensures

pub returns-in-Err : goal.returns-in-Err
returns-in-Err c = rows_refused _ _ _ _ _ c.in_ok-d.ensures c.in_ok-w.ensures _ c.in-Err.ensures
