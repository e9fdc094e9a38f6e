-- `octets::take_values` meets its contract. The invariant: the values so far are loaded. It requires the bytes of all.
use Rattle.std.proofs.Common.{refl, arith}
use Rattle.octets.specs.Bytes.{nums}
use Rattle.octets.proofs.Loads.{take_value}
use Rattle.octets.proofs.take_values.Goals as goal

pub loop-i-init : goal.loop-i-init
unfolding nums
loop-i-init c = refl

pub loop-i-preserved : goal.loop-i-preserved
loop-i-preserved c = take_value _ _ _ _ c.loop-i.invariant (omega arith) c.take32.ensures
