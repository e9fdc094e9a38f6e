-- `walks::walk_to` meets its contract. The invariant: the walk that stands there is admitted, the whole walk from it is the first one's, the flag is
-- right, and the lent buffer is as it was. The measure is the bytes left. It requires an admitted walk.
use mathlib.Core.Path.{◌≡◌}
use Rattle.section.specs.Lent.{walk_of}
use Rattle.calls.specs.Call.{left}
use Rattle.walks.proofs.Turns.{Turn}
use Rattle.walks.proofs.walk_to.Given as goal

abbrev pub invariant-loop-goal : goal.invariant-loop-goal
invariant-loop-goal l = Turn l.goal l.d l.s (walk_of l.initial.walk l.initial.values) (walk_of l.walk l.values) l.barren × (l.out ≡ l.initial.out)

abbrev pub decreases-loop-goal : goal.decreases-loop-goal
decreases-loop-goal l = left l.s (walk_of l.walk l.values)
