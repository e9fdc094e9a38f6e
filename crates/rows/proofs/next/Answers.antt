-- `rows::next` meets its contract: what the check refuses is refused, and what passes it is laid out. Assumes nothing.
use mathlib.Core.Path.{refl}
use Rattle.section.proofs.Checks.{refusal_passes}
use Rattle.rows.proofs.Checked.{next_refused, next_laid}
use Rattle.rows.proofs.next.Goals as goal

pub lay-requires : goal.lay-requires
lay-requires c = (refusal_passes _ _ _ _ _ c.in-Ok.ensures refl).0

pub returns-in-Ok : goal.returns-in-Ok
returns-in-Ok c = next_laid _ _ _ _ c.in-Ok.ensures c.lay.result c.lay.ensures

pub returns-in-Err : goal.returns-in-Err
returns-in-Err c = next_refused _ _ _ _ c.in-Err.ensures
