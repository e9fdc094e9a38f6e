-- `frame::intra_in` meets its contract: the fields get the last frame's values and no older ones. Assumes nothing.
use Rattle.std.proofs.Common.{refl}
use Rattle.plan.specs.Plan.{shape, rules}
use Rattle.frame.specs.Frames.{intra_fields}
use Rattle.frame.specs.Parts.{frame_of, raw_of}
use Rattle.frame.proofs.Whole.{intra_is}
use Rattle.frame.proofs.intra_in.Goals as goal

pub returns : goal.returns
unfolding intra_fields shape rules
returns c =
    intra_is c.args.d (frame_of c.args.last c.args.last_values.now) (raw_of c.args.iteration c.args.time c.args.raws.now)
    c.values_of.ensures (rw c.fields-n.ensures at c.main_fields-fields.ensures) c.values.ensures refl
