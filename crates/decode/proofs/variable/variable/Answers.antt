-- `decode::variable::variable` meets its contract: at each `return`, the bytes that were passed and the one at the place say what is read. Assumes nothing.
use native.Mathlib.Omega.{arith}
use Rattle.decode.proofs.Sevens.{running, start, step, ended, number, fifth, too_high}
use Rattle.decode.proofs.variable.variable.Goals as goal

pub returns-then-s-at : goal.returns-then-s-at
returns-then-s-at c = ended (start _ _) (omega arith)

pub returns-then-a-lt128 : goal.returns-then-a-lt128
returns-then-a-lt128 c = number (start _ _) (omega arith) (omega arith)

pub returns-then-s-p : goal.returns-then-s-p
returns-then-s-p c = ended (step (start _ _) (omega arith)) (omega arith)

pub returns-then-b-lt128 : goal.returns-then-b-lt128
returns-then-b-lt128 c = number (step (start _ _) (omega arith)) (omega arith) (omega arith)

pub returns-then-s-q : goal.returns-then-s-q
returns-then-s-q c = ended (step (step (start _ _) (omega arith)) (omega arith)) (omega arith)

pub returns-then-c-lt128 : goal.returns-then-c-lt128
returns-then-c-lt128 c = number (step (step (start _ _) (omega arith)) (omega arith)) (omega arith) (omega arith)

pub returns-then-s-r : goal.returns-then-s-r
returns-then-s-r c = ended (step (step (step (start _ _) (omega arith)) (omega arith)) (omega arith)) (omega arith)

pub returns-then-d-lt128 : goal.returns-then-d-lt128
returns-then-d-lt128 c = number (step (step (step (start _ _) (omega arith)) (omega arith)) (omega arith)) (omega arith) (omega arith)

pub returns-then-s-t : goal.returns-then-s-t
returns-then-s-t c = ended (step (step (step (step (start _ _) (omega arith)) (omega arith)) (omega arith)) (omega arith)) (omega arith)

pub returns-then-e-le15 : goal.returns-then-e-le15
returns-then-e-le15 c =
    fifth (step (step (step (step (start _ _) (omega arith)) (omega arith)) (omega arith)) (omega arith))
    (omega arith) (running _ _ _ _ _ (omega arith) (omega arith))

pub returns : goal.returns
returns c = too_high (step (step (step (step (start _ _) (omega arith)) (omega arith)) (omega arith)) (omega arith)) (omega arith)
