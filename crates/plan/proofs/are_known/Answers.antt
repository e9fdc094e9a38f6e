-- `plan::are_known` meets its contract. The invariant: the fields before `i` are known. Assumes nothing.
use Rattle.std.proofs.Common.{arith}
use Rattle.plan.proofs.Needs.{passed_on, first_fails, second_fails, passed_all, known_is}
use Rattle.plan.proofs.are_known.Goals as goal
use Rattle.plan.proofs.are_known.Goals.{then-not-is_predictor-via-then-not-is_predictor, then-not-is_predictor-via-else-not-is_predictor+then-not-is_encoding}

pub loop-i-init : goal.loop-i-init
loop-i-init g c = record { is = known_is 0 _ _ }

pub returns-then-not-is_predictor : goal.returns-then-not-is_predictor
returns-then-not-is_predictor g c =
    elim c.then-not-is_predictor.branch [
      | then-not-is_predictor-via-then-not-is_predictor w ↦ first_fails c.loop-i.invariant c.is_predictor.ensures w.if-not-is_predictor.true (omega arith)
      | then-not-is_predictor-via-else-not-is_predictor+then-not-is_encoding w ↦
          second_fails c.loop-i.invariant c.is_predictor.ensures w.if-not-is_predictor.false w.is_encoding.ensures w.if-not-is_encoding.true (omega arith)
    ]

pub loop-i-preserved : goal.loop-i-preserved
loop-i-preserved g c =
    passed_on c.loop-i.invariant c.is_predictor.ensures c.if-not-is_predictor.false c.is_encoding.ensures c.if-not-is_encoding.false (omega arith)

pub returns : goal.returns
returns g c = passed_all c.loop-i.invariant (omega arith)
