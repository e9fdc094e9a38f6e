-- `plan::Main::unmet` meets its contract: the field stands in one of 62 rooms. Assumes nothing.
use Rattle.std.proofs.Common.{arith}
use Rattle.plan.proofs.Rooms.{unmet_inside}
use Rattle.plan.proofs.Main.unmet.Goals as goal

pub map-requires : goal.map-requires
map-requires c i e _ _ = omega (arith, unmet_inside _ _ _ _ _ c.unmet-field.ensures e)
