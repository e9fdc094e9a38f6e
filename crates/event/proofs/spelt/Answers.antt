-- `event::spelt` meets its contract: the invariant is `Come`; a turn is one byte of the text. Assumes nothing.
use mathlib.Core.Path.{◌∙◌}
use native.Mathlib.Omega.{arith}
use Rattle.reader.proofs.Behind.{byte_or}
use Rattle.reader.proofs.Reading.{handed_on}
use Rattle.event.proofs.Texts.{come_here, come_on, come_other, come_stop, come_end}
use Rattle.event.proofs.spelt.Goals as goal

pub loop-letter-init : goal.loop-letter-init
loop-letter-init c = come_here _ _ _ _

pub returns-in_err-b : goal.returns-in_err-b
returns-in_err-b c =
    handed_on c.from_residual.ensures.1
    ∙ come_stop _ _ _ _ _ _ c.loop-letter.invariant c.loop-letter-test.true (byte_or _ _ c.in_err-b.ensures.value c.read_u8.ensures)

pub returns-then-b-letter : goal.returns-then-b-letter
returns-then-b-letter c =
    come_other _ _ _ _ _ _ c.loop-letter.invariant c.loop-letter-test.true
    (byte_or _ _ c.in_ok-b.ensures.value c.read_u8.ensures) c.if-b-letter.true

pub loop-letter-preserved : goal.loop-letter-preserved
loop-letter-preserved c =
    come_on _ _ _ _ _ _ c.loop-letter.invariant c.loop-letter-test.true
    (byte_or _ _ c.in_ok-b.ensures.value c.read_u8.ensures) c.if-b-letter.false

pub returns : goal.returns
returns c = come_end _ _ _ _ _ _ c.loop-letter.invariant (omega arith)
