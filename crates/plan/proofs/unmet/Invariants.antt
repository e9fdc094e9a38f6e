-- `plan::unmet` meets its contract. The invariant: the fields before `i` have what they need. Assumes nothing.
use Rattle.std.specs.Prelude.{Some, None, take}
use Rattle.plan.specs.Sound.{met, unmet_from}
use Rattle.plan.proofs.Needs.{Passed}
use Rattle.plan.proofs.unmet.Given as goal

abbrev pub invariant-loop-i : goal.invariant-loop-i
invariant-loop-i g l =
    Passed (unmet_from l.numbers l.motor 0 (take l.n l.intra) (take l.n l.inter)) (met l.numbers l.motor) (met l.numbers l.motor)
    None Some l.n l.intra l.inter l.i
