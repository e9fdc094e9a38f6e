-- `raws::groups::chunk` meets its contract. The invariant: n fields from field i on are alike. Assumes that field i is there, as its `requires` says.
use Rattle.raws.proofs.Runs.{Alike}
use Rattle.raws.proofs.groups.chunk.Given as goal

abbrev pub invariant-loop-n : goal.invariant-loop-n
invariant-loop-n l = Alike l.encodings l.i l.encoding l.n
