-- `words::written::put`: the bytes before `rest` are put.
use Rattle.words.proofs.Texts.{Laid}
use Rattle.words.proofs.written.put.Given as goal

abbrev pub invariant-loop-i : goal.invariant-loop-i
invariant-loop-i g l = Laid (g.W.Writing.bytes l.text) (g.W.Writing.bytes l.rest) l.initial.out l.out l.i
