-- `raws::groups::lay` meets its contract. The invariant: the first i are laid. Assumes that there are no more than 8 places, as its `requires` says.
use Rattle.raws.proofs.Laid.{Laid}
use Rattle.raws.proofs.groups.lay.Given as goal

abbrev pub invariant-loop-i : goal.invariant-loop-i
invariant-loop-i l = Laid l.initial.out l.numbers l.out l.i
