-- `event::two_numbers` meets its contract: a number of encoding 1, and a second behind it. Assumes nothing.
use mathlib.Core.Path.{◌∙◌}
use Rattle.reader.proofs.Behind.{read_on, read_stop}
use Rattle.reader.proofs.Reading.{handed_on}
use Rattle.event.specs.Events.{with_second, two_numbers}
use Rattle.event.proofs.Told.{told_here}
use Rattle.event.proofs.two_numbers.Goals as goal

pub returns-in_err-first : goal.returns-in_err-first
unfolding two_numbers with_second
returns-in_err-first c = handed_on c.from_residual.ensures.1 ∙ read_stop _ _ _ _ c.in_err-first.ensures

pub returns-in_err-second : goal.returns-in_err-second
unfolding two_numbers with_second
returns-in_err-second c =
    handed_on c.from_residual-in_err-second.ensures.1
    ∙ read_on _ _ _ _ c.in_ok-first.ensures (read_stop _ _ _ _ c.in_err-second.ensures)

pub returns : goal.returns
unfolding two_numbers with_second
returns c = read_on _ _ _ _ c.in_ok-first.ensures (read_on _ _ _ _ c.in_ok-second.ensures (told_here _ _ _))
