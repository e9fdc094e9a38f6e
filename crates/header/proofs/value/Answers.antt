-- `header::value` meets its contract. The invariant: `found` is what the header lines before `at` give. Assumes nothing.
use native.Mathlib.Omega.{arith}
use Rattle.header.proofs.Walking.{found_first, found_on, found_end, line_starts, line_ends, line_long}
use Rattle.header.proofs.value.Goals as goal

pub loop-line-init : goal.loop-line-init
loop-line-init c = found_first _ _

pub newer_value-found-requires : goal.newer_value-found-requires
newer_value-found-requires c =
    let starts = line_starts c.args.text.now c.loop-line.at c.in-Some.ensures c.loop-line.invariant.within in
    let within = c.loop-line.invariant.within in
    (omega arith, line_ends c.args.text.now c.loop-line.at c.in-Some.ensures c.loop-line.invariant.within)

pub next_line-at-requires : goal.next_line-at-requires
next_line-at-requires c = (line_long c.args.text.now c.loop-line.at c.in-Some.ensures c.loop-line.invariant.within).1

pub loop-line-preserved : goal.loop-line-preserved
loop-line-preserved c =
    found_on c.args.text.now c.loop-line.at c.in-Some.ensures c.loop-line.invariant.within c.next_line-at.ensures c.args.prefix.now c.loop-line.invariant
    c.newer_value-found.ensures

pub loop-line-smaller : goal.loop-line-smaller
loop-line-smaller c = omega (arith, line_long c.args.text.now c.loop-line.at c.in-Some.ensures c.loop-line.invariant.within, c.next_line-at.ensures)

pub returns : goal.returns
returns c = found_end _ _ c.in_default.ensures _ c.loop-line.invariant
