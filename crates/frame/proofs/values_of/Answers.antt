-- `frame::values_of` meets its contract. The invariant: the fields before `i` have their values, and the rooms from `i` on are 0.
-- It requires as many encodings as predictors, at most 62.
use Rattle.std.proofs.Common.{arith}
use Rattle.frame.proofs.Loop.{stands_first, stands_on, stands_last}
use Rattle.frame.proofs.values_of.Goals as goal

pub loop-i-init : goal.loop-i-init
loop-i-init c = stands_first _ _ _ _ c.clear.ensures

pub loop-i-preserved : goal.loop-i-preserved
loop-i-preserved c =
    stands_on _ _ _ c.loop-i.invariant c.min-room.ensures c.is_signed-signed.ensures c.nth.ensures c.nth-in-loop-i.ensures c.apply.ensures (omega arith)

pub returns : goal.returns
returns c = stands_last _ _ _ _ c.loop-i.invariant (omega arith)
