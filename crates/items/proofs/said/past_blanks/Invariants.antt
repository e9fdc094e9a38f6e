-- `items::said::past_blanks` meets its contract. The invariant: nothing but blanks lies between `from` and `i`. Assumes nothing.
use Rattle.items.proofs.Blanks.{Come}
use Rattle.items.proofs.said.past_blanks.Given as goal

abbrev pub invariant-loop-i : goal.invariant-loop-i
invariant-loop-i l = Come l.item l.from l.i
