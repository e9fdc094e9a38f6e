-- `decode::tagged_variable::marked_fields` meets its contract. The invariant is `Held`; a turn is one field. Assumes nothing.
use Prim.Native.Nat.{◌-◌}
use Rattle.decode.proofs.Marked.{Held}
use Rattle.decode.proofs.tagged_variable.marked_fields.Given as goal

abbrev pub invariant-loop-left : goal.invariant-loop-left
invariant-loop-left l = Held l.s l.initial.next l.n l.head l.values l.next l.bits l.left l.i

abbrev pub decreases-loop-left : goal.decreases-loop-left
decreases-loop-left l = l.n - l.i
