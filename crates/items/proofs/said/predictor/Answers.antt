-- `items::said::predictor` meets its contract: a digit is its number, 10 and 11 are two of them, and nothing else is one. Assumes nothing.
use mathlib.Core.Path.{refl}
use native.Mathlib.Omega.{arith}
use borrow.Author.Rules.{rules}
use Rattle.plan.specs.Known.{among}
use Rattle.items.proofs.Saying.{predictor_digit, predictor_teen, no_predictor}
use Rattle.items.proofs.said.predictor.Goals as goal

pub returns-then-d-lt48 : goal.returns-then-d-lt48
unfolding among
returns-then-d-lt48 c = no_predictor _ (omega arith) (omega arith)

pub returns-then-d-gt57 : goal.returns-then-d-gt57
unfolding among
returns-then-d-gt57 c = no_predictor _ (omega arith) (omega arith)

pub returns-then-item-eq1 : goal.returns-then-item-eq1
unfolding among
returns-then-item-eq1 c = predictor_digit _ (omega arith) (omega arith) (omega arith)

pub returns-then-d-eq48 : goal.returns-then-d-eq48
unfolding among
returns-then-d-eq48 c = predictor_teen _ _ (search rules) (search rules) (search rules) refl

pub returns-then-d-eq49 : goal.returns-then-d-eq49
unfolding among
returns-then-d-eq49 c = predictor_teen _ _ (search rules) (search rules) (search rules) refl

pub returns-else-d-eq49 : goal.returns-else-d-eq49
unfolding among
returns-else-d-eq49 c = no_predictor _ (omega arith) (omega arith)

pub returns-else-item-eq49 : goal.returns-else-item-eq49
unfolding among
returns-else-item-eq49 c = no_predictor _ (omega arith) (omega arith)

pub returns-else-item-eq2 : goal.returns-else-item-eq2
unfolding among
returns-else-item-eq2 c = no_predictor _ (omega arith) (omega arith)
