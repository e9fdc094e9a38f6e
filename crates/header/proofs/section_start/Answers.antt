-- `header::section_start` meets its contract. The invariant: header lines alone stand before `start`. Assumes nothing.
use native.Mathlib.Omega.{arith}
use Rattle.header.proofs.Walking.{passed_first, passed_on, passed_end, line_long}
use Rattle.header.proofs.section_start.Goals as goal

pub loop-line-init : goal.loop-line-init
loop-line-init c = passed_first _

pub next_line-start-requires : goal.next_line-start-requires
next_line-start-requires c = (line_long c.args.text.now c.loop-line.start c.in-Some.ensures c.loop-line.invariant.within).1

pub loop-line-preserved : goal.loop-line-preserved
loop-line-preserved c =
    passed_on c.args.text.now c.loop-line.start c.in-Some.ensures c.loop-line.invariant.within c.next_line-start.ensures c.loop-line.invariant

pub loop-line-smaller : goal.loop-line-smaller
loop-line-smaller c = omega (arith, line_long c.args.text.now c.loop-line.start c.in-Some.ensures c.loop-line.invariant.within, c.next_line-start.ensures)

pub returns : goal.returns
returns c = passed_end _ _ c.in_default.ensures c.loop-line.invariant
