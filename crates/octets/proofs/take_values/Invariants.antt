-- `octets::take_values` meets its contract. The invariant: the values so far are loaded. It requires the bytes of all.
use Rattle.std.proofs.Common.{◌≡◌, take, drop}
use Rattle.octets.specs.Bytes.{nums}
use Rattle.octets.proofs.take_values.Given as goal

abbrev pub invariant-loop-i : goal.invariant-loop-i
invariant-loop-i l = take l.i l.values ≡ nums l.i (drop l.at l.buf)
