-- `definition::main_lists::check_rounds` meets its contract: check by check. Assumes nothing.
use Rattle.std.proofs.lemmas.Result.{err_from_is_err_and}
use Rattle.definition.proofs.Chain.{passes, stops}
use Rattle.definition.proofs.Rounds.{rounds_said}
use Rattle.definition.proofs.main_lists.check_rounds.Goals as goal

pub returns-in_err-check-2 : goal.returns-in_err-check-2
returns-in_err-check-2 c l e =
    let p = err_from_is_err_and c.from_residual-in_err-check-2.result c.from_residual-in_err-check-2.ensures.1 in
    let iteration = rw c.is_field.ensures at c.in_ok-check.ensures in
    rw (p.1, p.2)
    (rounds_said c.args.n l e (passes (c.in_ok-unknown_in.ensures l e) (passes iteration (stops _ c.in_err-check-2.ensures))))
