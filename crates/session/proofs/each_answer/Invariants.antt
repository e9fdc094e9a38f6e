-- `session::each_answer` ends and meets its contract. The invariant: the walk that stands there is kept, the flag is right, and the whole walk from there is
-- the first one's. The measure is the bytes left.
use Rattle.section.specs.Walk.{start}
use Rattle.calls.specs.Call.{left}
use Rattle.walks.specs.declared.Goal.TheVariants.{End}
use Rattle.walks.proofs.Turns.{Turn}
use Rattle.session.proofs.each_answer.Given as goal

abbrev pub invariant-loop-d : goal.invariant-loop-d
invariant-loop-d g l = record { callable : goal.F-IsAlwaysCallable g l.each; turn : Turn End l.d l.s start l.walk l.barren }

abbrev pub decreases-loop-d : goal.decreases-loop-d
decreases-loop-d g l = left l.s l.walk
