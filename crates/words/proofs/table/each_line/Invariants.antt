-- `words::table::each_line`: what calls with the lines that are left come to, calls with all lines come to.
use Rattle.std.proofs.Common.{length}
use Rattle.std.specs.Fn.{CalledAt}
use Rattle.words.specs.Lines.{lines, Told}
use Rattle.words.proofs.table.each_line.Given as goal

abbrev pub invariant-loop-rest : goal.invariant-loop-rest
invariant-loop-rest g l =
    record {
      callable : goal.F-IsAlwaysCallable g l.each;
      told : (r : _) → Told (CalledAt g.F.FnMut) l.each (lines l.rest) r → Told (CalledAt g.F.FnMut) l.initial.each (lines l.text) r;
    }

abbrev pub decreases-loop-rest : goal.decreases-loop-rest
decreases-loop-rest g l = length l.rest
