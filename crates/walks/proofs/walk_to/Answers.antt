-- `walks::walk_to` meets its contract. The invariant: the walk that stands there is admitted, the whole walk from it is the first one's, the flag is
-- right, and the lent buffer is as it was. The measure is the bytes left. It requires an admitted walk.
use mathlib.Core.Path.{refl, ap, ◌∙◌}
use Rattle.section.specs.Answers.{handed}
use Rattle.section.proofs.Lent.{light_whole}
use Rattle.section.proofs.Rooms.{walk_counts}
use Rattle.calls.proofs.Turns.{ready_rooms}
use Rattle.walks.specs.Walks.{walked}
use Rattle.walks.proofs.Turns.{turn_first, turn_again, turn_less, turn_last}
use Rattle.walks.proofs.walk_to.Goals as goal

pub loop-goal-init : goal.loop-goal-init
loop-goal-init c =
    (turn_first _ _ _ c.args.w c.light-walk.ensures c.values-values.ensures c.requires (walk_counts c.args.w c.well_formed.1.0), refl)

pub step_in-stepped-requires : goal.step_in-stepped-requires
step_in-stepped-requires c =
    let t = c.loop-goal.invariant.0.ready in record { walk_admitted = (t.kept.so, ready_rooms _ _ t refl); barren = t.right }

pub returns-then-is_last : goal.returns-then-is_last
returns-then-is_last c =
    turn_last _ _ _ (light_whole c.args.w c.light-walk.ensures c.values-values.ensures) c.loop-goal.values c.loop-goal.invariant.0 _ _ c.step_in-stepped.ensures
    c.is_last.ensures c.if-is_last.true _ _ c.hand_out.ensures
    ∙ ap (handed (walked c.args.goal c.args.d c.args.s.now c.args.w)) c.loop-goal.invariant.1

pub loop-goal-smaller : goal.loop-goal-smaller
loop-goal-smaller c =
    turn_less _ _ _ c.loop-goal.invariant.0 c.step_in-stepped.ensures c.is_last.ensures c.if-is_last.false

pub loop-goal-preserved : goal.loop-goal-preserved
loop-goal-preserved c =
    (turn_again _ _ _ c.loop-goal.invariant.0 c.step_in-stepped.ensures c.is_last.ensures c.if-is_last.false, c.loop-goal.invariant.1)
