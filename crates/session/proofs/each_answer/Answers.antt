-- A step is asked for with what the invariant says, and what a step ensures keeps it.
use Rattle.std.proofs.Common.{rules, of_calls, sym, ap, ◌∙◌}
use Rattle.calls.proofs.Turns.{ready_start, ready_rooms}
use Rattle.walks.specs.declared.Goal.TheVariants.{End}
use Rattle.walks.specs.Walks.{walked}
use Rattle.walks.proofs.Turns.{turn_again, turn_less}
use Rattle.session.proofs.Whole.{over_alone, last_counts}
use Rattle.session.proofs.each_answer.Goals as goal

pub loop-d-init : goal.loop-d-init
loop-d-init g c =
    record {
      callable = c.requires.callable;
      turn = record { ready = ready_start _ _ c.requires.sound c.start-walk.ensures; same = ap (walked End _ _) c.start-walk.ensures };
    }

pub step-called-requires : goal.step-called-requires
step-called-requires g c =
    let t = c.loop-d.invariant.turn.ready in
    record { w_admitted = (t.kept.so, ready_rooms _ _ t (search rules)); barren = t.right }

pub returns-then-is_over : goal.returns-then-is_over
returns-then-is_over g c = last_counts _ _ c.loop-d.invariant.turn c.step-called.ensures (sym c.is_over.ensures ∙ c.if-is_over.true)

pub loop-d-smaller : goal.loop-d-smaller
loop-d-smaller g c =
    turn_less End _ _ c.loop-d.invariant.turn c.step-called.ensures (over_alone _ _ c.is_over.ensures) c.if-is_over.false

pub loop-d-preserved : goal.loop-d-preserved
loop-d-preserved g c =
    record {
      callable = search of_calls;
      turn = turn_again End _ _ c.loop-d.invariant.turn c.step-called.ensures (over_alone _ _ c.is_over.ensures) c.if-is_over.false;
    }
