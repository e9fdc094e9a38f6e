-- `event::read` meets its contract: the type has the reader that stands in its arm, and every other type has none. Assumes nothing.
use mathlib.Core.Path.{refl, ◌∙◌}
use native.Mathlib.Omega.{arith}
use Rattle.reader.proofs.Behind.{byte_or, read_stop}
use Rattle.reader.proofs.Reading.{handed_on}
use Rattle.event.specs.Events.{one_number, two_numbers, closing, of_type, event_read}
use Rattle.event.proofs.Told.{of_type_law, of_none}
use Rattle.event.proofs.read.Goals as goal

pub returns-in_err-code : goal.returns-in_err-code
unfolding event_read
returns-in_err-code c = handed_on c.from_residual.ensures.1 ∙ read_stop _ _ _ _ (byte_or _ _ c.in_err-code.ensures.value c.read_u8.ensures)

pub returns-in-0 : goal.returns-in-0
unfolding of_type
returns-in-0 c = let here = byte_or _ _ c.in_ok-code.ensures.value c.read_u8.ensures in search (of_type_law one_number 0 refl)

pub returns-in-14 : goal.returns-in-14
unfolding of_type
returns-in-14 c = let here = byte_or _ _ c.in_ok-code.ensures.value c.read_u8.ensures in search (of_type_law two_numbers 14 refl)

pub returns-in-15 : goal.returns-in-15
unfolding of_type
returns-in-15 c = let here = byte_or _ _ c.in_ok-code.ensures.value c.read_u8.ensures in search (of_type_law one_number 15 refl)

pub returns-in-30 : goal.returns-in-30
unfolding of_type
returns-in-30 c = let here = byte_or _ _ c.in_ok-code.ensures.value c.read_u8.ensures in search (of_type_law two_numbers 30 refl)

pub returns-in-255 : goal.returns-in-255
unfolding of_type
returns-in-255 c = let here = byte_or _ _ c.in_ok-code.ensures.value c.read_u8.ensures in search (of_type_law (λ _. closing) 255 refl)

pub returns-in_default : goal.returns-in_default
returns-in_default c = of_none _ _ (byte_or _ _ c.in_ok-code.ensures.value c.read_u8.ensures) (omega arith)
