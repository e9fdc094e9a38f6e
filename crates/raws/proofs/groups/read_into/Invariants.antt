-- `raws::groups::read_into` meets its contract. The invariant is `Held`; a turn is one number by itself, or one group. It requires no more
-- fields than rooms.
use Prim.Native.Nat.{◌-◌}
use lib.ListN.{length}
use Rattle.raws.proofs.Turns.{Held}
use Rattle.raws.proofs.groups.read_into.Given as goal

abbrev pub invariant-loop-i : goal.invariant-loop-i
invariant-loop-i l = Held l.encodings l.s l.initial.next l.iteration l.time l.out l.next l.i

abbrev pub decreases-loop-i : goal.decreases-loop-i
decreases-loop-i l = length l.encodings - l.i
