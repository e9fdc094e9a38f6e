-- `section::look_once` meets its contract: a walk that goes on looks, and one that has ended stays. Assumes an admitted walk and rooms for every field.
use Rattle.section.proofs.Alike.{not_going}
use Rattle.section.proofs.Looks.{once_fits, once_going, once_over}
use Rattle.section.proofs.Rooms.{walk_counts}
use Rattle.section.proofs.look_once.Goals as goal

pub settle-requires : goal.settle-requires
settle-requires c =
    (once_fits _ _ c.args.w c.sight-l.ensures c.requires.0 (walk_counts c.args.w c.well_formed.1.0), c.requires.1)

pub returns-in-Going : goal.returns-in-Going
returns-in-Going c =
    once_going _ _ _ c.sight-l.ensures _
    c.in-Going.is c.settle.ensures

pub returns-in_default : goal.returns-in_default
returns-in_default c = once_over _ _ _ _ (not_going _ c.in_default.not-Going) (c.over.ensures _)
