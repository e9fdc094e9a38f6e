-- `session::defined` is safe: whatever the lists are, the definition that comes out is sound, as the walk wants it.
-- It requires that the section begins within the log.
use Rattle.std.proofs.Common.{ap, ◌∙◌}
use Rattle.plan.specs.Sound.{sound}
use Rattle.definition.proofs.Sound.{defined_sound}
use Rattle.session.proofs.defined.Goals as goal

pub walk-requires : goal.walk-requires
walk-requires g c = ap (λ x. sound x.definition) c.define-defined.ensures ∙ defined_sound _ _ _ _
