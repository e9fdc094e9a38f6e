-- `definition::checks::unknown_from` meets its contract. The invariant: the rounds before `k` are passed. Assumes nothing.
use Rattle.definition.proofs.Unknown.{Passed}
use Rattle.definition.proofs.checks.unknown_from.Given as goal

abbrev pub invariant-loop-k : goal.invariant-loop-k
invariant-loop-k l = Passed l.rows l.from l.n l.k
