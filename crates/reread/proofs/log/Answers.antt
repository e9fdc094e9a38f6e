-- `reread::log` is safe: the section begins within the log, and whatever the lists are, the definition that comes out is sound. Assumes nothing.
use Rattle.std.proofs.Common.{ap, ◌∙◌}
use Rattle.plan.specs.Sound.{sound}
use Rattle.definition.proofs.Sound.{defined_sound}
use Rattle.header.proofs.Within.{section_within}
use Rattle.reread.proofs.log.Goals as goal

pub walk-requires : goal.walk-requires
walk-requires g c = ap (λ x. sound x.definition) c.define_plainly-defined.ensures ∙ defined_sound _ _ _ _

pub slice_bounds-s-count : goal.slice_bounds-s-count
slice_bounds-s-count g c = rw c.read-header.ensures (section_within _)

pub slice_bounds-s-start : goal.slice_bounds-s-start
slice_bounds-s-start g c = rw c.read-header.ensures (section_within _)
