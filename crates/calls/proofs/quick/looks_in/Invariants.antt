-- `calls::quick::looks_in` meets its contract. The invariant: the walk where the loop stands is admitted and goes on,
-- its call is the first walk's, the flag is right there, and the values beside it are as they were. The measure is the bytes left.
-- It requires an admitted walk that goes on, rooms for the fields, and a flag that is right.
use Prim.Native.Nat.{◌-◌}
use lib.ListN.{length}
use Rattle.calls.proofs.Lent.{Lies}
use Rattle.calls.proofs.quick.looks_in.Given as goal

abbrev pub invariant-loop-nothing : goal.invariant-loop-nothing
invariant-loop-nothing l = Lies l.d l.s l.initial.values l.heads l.initial.tally l.values l.tally l.known

abbrev pub decreases-loop-nothing : goal.decreases-loop-nothing
decreases-loop-nothing l = length l.s - l.tally.place
