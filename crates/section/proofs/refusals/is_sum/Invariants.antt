-- `section::refusals::is_sum` meets its contract. The invariant: the counts before this one are taken off the trials. Assumes nothing.
use Rattle.section.proofs.Sums.{Off}
use Rattle.section.proofs.refusals.is_sum.Given as goal

abbrev pub invariant-loop-count : goal.invariant-loop-count
invariant-loop-count l = Off l.t.counts l.initial.left l.left l.count-index
