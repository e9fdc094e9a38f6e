-- `section::refusals::is_sum` meets its contract: a count that is more than what is left. Assumes nothing.
use Rattle.section.proofs.Sums.{off_short}
use Rattle.section.proofs.refusals.is_sum.Goals as goal

pub returns-then-left-count : goal.returns-then-left-count
returns-then-left-count c = off_short _ c.loop-count.invariant c.loop-count-test.true c.if-left-count.true
