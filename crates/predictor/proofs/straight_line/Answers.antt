-- `predictor::straight_line` meets its contract: what does not leave 64 bits and keeps to the top is the line. Assumes nothing.
use Rattle.std.proofs.Common.{arith}
use Rattle.predictor.proofs.Lines.{goes_on}
use Rattle.predictor.proofs.straight_line.Goals as goal
use Rattle.predictor.proofs.straight_line.Goals.{then-last-older, else-last-older}

pub returns-in-Some : goal.returns-in-Some
returns-in-Some c =
    elim c.if-last-older.branch [ then-last-older w ↦ goes_on _ _ _ (grind arith) | else-last-older w ↦ goes_on _ _ _ (grind arith) ]
