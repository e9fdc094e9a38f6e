-- `decode::tagged_variable::marked_fields` meets its contract. The invariant is `Held`; a turn is one field. Assumes nothing.
use mathlib.Core.Path.{ap, ◌∙◌}
use native.Mathlib.Omega.{arith}
use Rattle.reader.proofs.Reading.{handed_on}
use Rattle.decode.specs.Whole.{whole}
use Rattle.decode.proofs.Marked.{held_first, held_inside, held_on, held_err, held_end}
use Rattle.decode.proofs.tagged_variable.marked_fields.Goals as goal

pub loop-left-init : goal.loop-left-init
loop-left-init c = search held_first

pub bounds-values-i : goal.bounds-values-i
bounds-values-i c = omega (arith, held_inside c.loop-left.invariant c.loop-left-test.true, c.loop-left.invariant.fit, c.loop-left.invariant.room)

pub returns-in_err-v : goal.returns-in_err-v
returns-in_err-v c =
    ap whole (handed_on c.from_residual.ensures.1)
    ∙ held_err c.loop-left.invariant c.in_err-v.ensures c.loop-left-test.true

pub loop-left-smaller : goal.loop-left-smaller
loop-left-smaller c = omega (arith, held_inside c.loop-left.invariant c.loop-left-test.true)

pub loop-left-preserved : goal.loop-left-preserved
loop-left-preserved c = held_on c.loop-left.invariant c.in_ok-v.ensures c.loop-left-test.true c.from-left.ensures

pub returns : goal.returns
returns c = held_end c.loop-left.invariant c.loop-left-test.false
