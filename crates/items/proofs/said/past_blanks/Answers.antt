-- `items::said::past_blanks` meets its contract. The invariant: nothing but blanks lies between `from` and `i`. Assumes nothing.
use native.Mathlib.Omega.{arith}
use Rattle.items.proofs.Blanks.{come_here, come_on, come_off, come_end}
use Rattle.items.proofs.said.past_blanks.Goals as goal

pub loop-i-init : goal.loop-i-init
loop-i-init c = come_here _ _

pub returns-then-not-is_blank : goal.returns-then-not-is_blank
returns-then-not-is_blank c = search come_off

pub loop-i-preserved : goal.loop-i-preserved
loop-i-preserved c = search come_on

pub returns : goal.returns
returns c = omega (arith, come_end _ _ _ c.loop-i.invariant c.loop-i-test.false)
