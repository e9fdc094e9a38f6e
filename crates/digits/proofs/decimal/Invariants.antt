-- `digits::decimal` meets its contract. The invariant: the bytes before `b` write `n`. Assumes nothing.
use Prim.Native.Nat.{◌^◌, ◌<◌}
use Rattle.digits.proofs.Digits.{Read}
use Rattle.digits.proofs.decimal.Given as goal

abbrev pub invariant-loop-b : goal.invariant-loop-b
invariant-loop-b l = (l.n < 2 ^ 64) × Read l.s l.n l.b-index
