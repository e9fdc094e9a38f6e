-- `decode::variable::variable_signed` meets its contract. Assumes nothing.
use mathlib.Core.Path.{◌∙◌}
use Rattle.reader.proofs.Reading.{made_ok, made_err, handed_on}
use Rattle.decode.proofs.Made.{encoding0_of}
use Rattle.decode.proofs.variable.variable_signed.Goals as goal

pub returns-in_err-n : goal.returns-in_err-n
returns-in_err-n c = handed_on c.from_residual.ensures.1 ∙ rw encoding0_of (made_err _ _ _ c.in_err-n.ensures)

pub returns : goal.returns
returns c = rw encoding0_of (made_ok _ _ _ c.in_ok-n.ensures c.zig_zag_decode.ensures)
