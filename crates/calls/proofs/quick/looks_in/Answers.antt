-- `calls::quick::looks_in` meets its contract. The invariant: the walk where the loop stands is admitted and goes on,
-- its call is the first walk's, the flag is right there, and the values beside it are as they were. The measure is the bytes left.
-- It requires an admitted walk that goes on, rooms for the fields, and a flag that is right.
use mathlib.Core.Path.{refl}
use Rattle.section.specs.Lent.{walk_of}
use Rattle.section.proofs.Rooms.{tally_counts}
use Rattle.calls.proofs.Lent.{lies_last}
use Rattle.calls.proofs.Loop.{stands_first, stands_fits, stands_on, less_left}
use Rattle.calls.proofs.quick.looks_in.Goals as goal

pub loop-nothing-init : goal.loop-nothing-init
loop-nothing-init c =
    record {
      kept = refl;
      stands =
          stands_first _ _ (walk_of c.args.w c.args.values.now) _ c.requires.walk_admitted.0 c.requires.going.0
          c.requires.going.1 (tally_counts c.args.w.tally c.well_formed.1.0.1.1.0);
    }

pub sight_into-g-requires : goal.sight_into-g-requires
sight_into-g-requires c = c.loop-nothing.invariant.stands.right

pub settle_in-settled-requires : goal.settle_in-settled-requires
settle_in-settled-requires c = (stands_fits _ _ c.loop-nothing.invariant.stands c.sight_into-g.ensures, c.requires.walk_admitted.1)

pub returns-in_default : goal.returns-in_default
returns-in_default c =
    lies_last _ _ c.loop-nothing.invariant c.sight_into-g.ensures c.in_vain.ensures c.in_default.is _ c.settle_in-settled.ensures

pub after-tally-requires : goal.after-tally-requires
after-tally-requires c = stands_fits _ _ c.loop-nothing.invariant.stands c.sight_into-g.ensures

pub loop-nothing-smaller : goal.loop-nothing-smaller
loop-nothing-smaller c =
    less_left _ _ c.loop-nothing.invariant.stands c.sight_into-g.ensures c.in_vain.ensures c.in-Some.is c.after-tally.ensures

pub loop-nothing-preserved : goal.loop-nothing-preserved
loop-nothing-preserved c =
    record {
      kept = c.loop-nothing.invariant.kept;
      stands = stands_on _ _ c.loop-nothing.invariant.stands c.sight_into-g.ensures c.in_vain.ensures c.in-Some.is c.after-tally.ensures;
    }
