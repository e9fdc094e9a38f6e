-- `decode::tagged_variable::headed_group` meets its contract. Assumes nothing.
use mathlib.Core.Path.{ap, ◌∙◌}
use native.Mathlib.Omega.{arith}
use Rattle.reader.proofs.Behind.{byte_or}
use Rattle.reader.proofs.Reading.{handed_on}
use Rattle.decode.specs.Whole.{whole}
use Rattle.decode.proofs.Headed.{head_err, head_high, head_low}
use Rattle.decode.proofs.tagged_variable.headed_group.Goals as goal

pub returns-in_err-head : goal.returns-in_err-head
returns-in_err-head c =
    ap whole (handed_on c.from_residual.ensures.1)
    ∙ head_err _ _ _ (byte_or _ _ c.in_err-head.ensures.value c.read_u8.ensures)

pub returns-then-limit-from : goal.returns-then-limit-from
returns-then-limit-from c = head_high _ _ _ (byte_or _ _ c.in_ok-head.ensures.value c.read_u8.ensures) (omega arith)

pub returns : goal.returns
returns c =
    head_low _ _ _ c.marked_fields.ensures (byte_or _ _ c.in_ok-head.ensures.value c.read_u8.ensures) (omega arith)
