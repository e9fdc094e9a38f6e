-- `event::one_number` meets its contract: a number of encoding 1, and nothing more. Assumes nothing.
use mathlib.Core.Path.{◌∙◌}
use Rattle.reader.proofs.Behind.{read_on, read_stop}
use Rattle.reader.proofs.Reading.{handed_on}
use Rattle.event.specs.Events.{one_number}
use Rattle.event.proofs.Told.{told_here}
use Rattle.event.proofs.one_number.Goals as goal

pub returns-in_err-first : goal.returns-in_err-first
unfolding one_number
returns-in_err-first c = handed_on c.from_residual.ensures.1 ∙ read_stop _ _ _ _ c.in_err-first.ensures

pub returns : goal.returns
unfolding one_number
returns c = read_on _ _ _ _ c.in_ok-first.ensures (told_here _ _ _)
