-- `header::value` meets its contract. The invariant: `found` is what the header lines before `at` give. Assumes nothing.
use Prim.Native.Nat.{◌-◌}
use lib.ListN.{length}
use Rattle.header.proofs.Walking.{Found}
use Rattle.header.proofs.value.Given as goal

abbrev pub invariant-loop-line : goal.invariant-loop-line
invariant-loop-line l = Found l.text l.prefix l.at l.found

abbrev pub decreases-loop-line : goal.decreases-loop-line
decreases-loop-line l = length l.text - l.at
