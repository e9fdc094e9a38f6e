-- Checks one after another, as the code goes about them: one that finds nothing leaves the finding to those behind it.
use Rattle.std.proofs.Common.{◌≡◌, ap, ◌∙◌, Some, None}
use Rattle.definition.specs.declared.Paper.{Paper}
use Rattle.definition.specs.Checks.{Finding, ◌or_else◌}

pub passes : {f x y : Finding} → None ≡ x → f ≡ y → f ≡ (x or_else y)
unfolding ◌or_else◌
passes {y = y} e g = g ∙ ap (λ z. z or_else y) e

pub stops : {p : Paper} {x : Finding} (y : Finding) → Some p ≡ x → Some p ≡ (x or_else y)
unfolding ◌or_else◌
stops y e = ap (λ z. z or_else y) e

-- for the functions that go by `?`
pub ruleset steps = (passes, stops)
