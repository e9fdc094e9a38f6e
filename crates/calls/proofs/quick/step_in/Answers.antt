-- `calls::quick::step_in` meets its contract: a walk that goes on looks, and one that has ended stays as it is.
-- It requires an admitted walk, rooms for the fields, and a flag that is right.
use Rattle.section.proofs.Alike.{not_going}
use Rattle.calls.proofs.Lent.{ended_in}
use Rattle.calls.proofs.quick.step_in.Goals as goal

pub returns-in_default : goal.returns-in_default
returns-in_default c = ended_in _ _ _ c.args.values.now (not_going _ c.in_default.not-Going) c.over_in.ensures c.requires.barren
