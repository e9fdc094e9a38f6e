-- `plan::unmet` meets its contract. The invariant: the fields before `i` have what they need. Assumes nothing.
use Rattle.std.proofs.Common.{arith}
use Rattle.plan.proofs.Needs.{passed_on, first_fails, second_fails, passed_all, unmet_is}
use Rattle.plan.proofs.unmet.Goals as goal
use Rattle.plan.proofs.unmet.Goals.{then-not-is_met-via-then-not-is_met, then-not-is_met-via-else-not-is_met+then-not-is_met-2}

pub loop-i-init : goal.loop-i-init
loop-i-init g c = record { is = unmet_is _ _ 0 _ _ }

pub returns-then-not-is_met : goal.returns-then-not-is_met
returns-then-not-is_met g c =
    elim c.then-not-is_met.branch [
      | then-not-is_met-via-then-not-is_met w ↦ first_fails c.loop-i.invariant c.is_met.ensures w.if-not-is_met.true (omega arith)
      | then-not-is_met-via-else-not-is_met+then-not-is_met-2 w ↦
          second_fails c.loop-i.invariant c.is_met.ensures w.if-not-is_met.false w.is_met-else-not-is_met.ensures w.if-not-is_met-2.true (omega arith)
    ]

pub loop-i-preserved : goal.loop-i-preserved
loop-i-preserved g c =
    passed_on c.loop-i.invariant c.is_met.ensures c.if-not-is_met.false c.is_met-else-not-is_met.ensures c.if-not-is_met-2.false (omega arith)

pub returns : goal.returns
returns g c = passed_all c.loop-i.invariant (omega arith)
