-- `extent::sight` meets its contract: a sight whose searches are all made. Assumes nothing.
use mathlib.Core.Path.{◌∙◌}
use Rattle.extent.proofs.Flag.{barren_false}
use Rattle.extent.proofs.sight.Goals as goal

pub sight_into-glance-requires : goal.sight_into-glance-requires
sight_into-glance-requires c = barren_false _ _

pub returns : goal.returns
returns c = c.with.ensures ∙ c.sight_into-glance.ensures
