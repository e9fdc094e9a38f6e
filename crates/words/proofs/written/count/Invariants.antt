-- `words::written::count`: the bytes before `rest` are right, and n; each has at least a byte of the text.
use Rattle.std.proofs.Common.{◌≡◌, ◌+◌, ◌≤◌, length}
use Rattle.words.specs.Written.{counted}
use Rattle.words.proofs.Texts.{more}
use Rattle.words.proofs.written.count.Given as goal

abbrev pub invariant-loop-behind : goal.invariant-loop-behind
invariant-loop-behind g l =
    record { is : more l.n (g.W.Writing.bytes l.rest) ≡ counted (g.W.Writing.bytes l.text); within : l.n + length l.rest ≤ length l.text }

abbrev pub decreases-loop-behind : goal.decreases-loop-behind
decreases-loop-behind g l = length l.rest
