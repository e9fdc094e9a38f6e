-- `definition::checks::unknown_from` meets its contract. The invariant: the rounds before `k` are passed. Assumes nothing.
use Rattle.std.proofs.lemmas.Result.{err_from_is_err_and}
use Rattle.definition.proofs.Unknown.{passed_on, passed_not, passed_all}
use Rattle.definition.proofs.checks.unknown_from.Goals as goal

pub returns-in_err-unknown_in : goal.returns-in_err-unknown_in
returns-in_err-unknown_in c =
    let p = err_from_is_err_and c.from_residual.result c.from_residual.ensures.1 in
    rw (p.1, p.2) (passed_not c.loop-k.invariant c.in_err-unknown_in.ensures c.loop-k-test.true)

pub loop-k-preserved : goal.loop-k-preserved
loop-k-preserved c = passed_on c.loop-k.invariant c.in_ok-unknown_in.ensures c.loop-k-test.true

pub returns : goal.returns
returns c = passed_all c.loop-k.invariant c.loop-k-test.false
