-- `frame::slow_in` meets its contract: the fields get no history, and a field count over 16 takes all the rooms. Assumes nothing.
use Rattle.plan.specs.Plan.{rules}
use Rattle.plan.proofs.Rooms.{slow_rooms}
use Rattle.frame.specs.Parts.{raw_of}
use Rattle.frame.proofs.Whole.{slow_is}
use Rattle.frame.proofs.slow_in.Goals as goal

pub returns : goal.returns
unfolding rules
returns c =
    λ i t.
    slow_is c.args.d (raw_of i t c.args.raws.now) c.min-k.ensures c.values_of.ensures (slow_rooms c.args.d.slow c.well_formed.0.1.1.1.0)
