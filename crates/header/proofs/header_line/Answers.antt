-- `header::header_line` meets its contract: `H ` holds no line feed. Assumes nothing.
use native.Mathlib.Omega.{arith}
use lib.ListN.{length-drop, drop}
use borrow.Author.Rules.{part_to_end}
use Rattle.digits.proofs.Parting.{before_within}
use Rattle.header.proofs.Walking.{no_line, line_here}
use Rattle.header.proofs.header_line.Goals as goal

pub returns-then-not-starts_with : goal.returns-then-not-starts_with
returns-then-not-starts_with c = no_line _ _ c.starts_with.ensures.value c.if-not-starts_with.true

pub overflow_add-result : goal.overflow_add-result
overflow_add-result c =
    let way = rw part_to_end at c.until.ensures in
    omega (arith, c.well_formed, before_within 10 (drop c.args.at c.args.text.now), length-drop c.args.at c.args.text.now)

pub returns : goal.returns
returns c = line_here _ _ c.starts_with.ensures.value c.if-not-starts_with.false c.until.ensures
