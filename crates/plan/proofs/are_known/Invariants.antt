-- `plan::are_known` meets its contract. The invariant: the fields before `i` are known. Assumes nothing.
use Rattle.std.specs.Prelude.{true, false, take}
use Rattle.plan.specs.Known as codes
use Rattle.plan.specs.Sound.{known}
use Rattle.plan.proofs.Needs.{Passed}
use Rattle.plan.proofs.are_known.Given as goal

abbrev pub invariant-loop-i : goal.invariant-loop-i
invariant-loop-i g l =
    Passed (known (take l.n l.predictors) (take l.n l.encodings)) (λ _. codes.among codes.predictors) (λ _. codes.among codes.encodings)
    true (λ _. false) l.n l.predictors l.encodings l.i
