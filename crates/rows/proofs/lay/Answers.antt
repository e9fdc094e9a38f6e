-- `rows::lay` meets its contract. The invariant: so many rows are laid out, and those from the walk that stands there follow;
-- the walk is admitted and the flag is right. It requires an admitted walk.
use mathlib.Core.Path.{refl}
use native.Mathlib.Omega.{arith}
use Rattle.section.proofs.Lent.{light_whole}
use Rattle.section.proofs.Rooms.{walk_counts}
use Rattle.calls.proofs.Lent.{ready_light}
use Rattle.calls.proofs.Turns.{ready_rooms, ready_again}
use Rattle.rows.proofs.OneRow.{row_length_some}
use Rattle.rows.proofs.Laying.{row_fits, row_size, laying_first, laying_full, laying_over, laying_more, laid_whole}
use Rattle.rows.proofs.lay.Goals as goal

pub nonzero_div-room : goal.nonzero_div-room
nonzero_div-room c = omega (arith, row_length_some c.args.d, c.row_length-size.ensures)

pub loop-count-init : goal.loop-count-init
loop-count-init c = (
  ready_light _ _ c.args.w c.light-walk.ensures c.values-values.ensures (record { so = c.requires; four = walk_counts c.args.w c.well_formed.1.0 }),
  laying_first _ _ _ _ c.row_length-size.ensures,
)

pub step_in-stepped-requires-clause-walk_admitted : goal.step_in-stepped-requires-clause-walk_admitted
step_in-stepped-requires-clause-walk_admitted c = let t = c.loop-count.invariant.0 in (t.kept.so, ready_rooms _ _ t refl)

pub returns-then-is_over : goal.returns-then-is_over
returns-then-is_over c =
    laid_whole _ _ _ _ (light_whole c.args.w c.light-walk.ensures c.values-values.ensures) c.with.ensures
    (laying_over _ _ _ _ c.loop-count.invariant.1 c.step_in-stepped.ensures c.loop-count-test.true c.is_over.ensures c.if-is_over.true)

pub put_row-requires : goal.put_row-requires
put_row-requires c =
    omega (
      arith,
      row_fits _ _ _ _ c.loop-count-test.true refl,
      row_size _ c.row_length-size.ensures c.width-n.ensures.0,
      c.width-n.ensures.1,
    )

pub loop-count-preserved : goal.loop-count-preserved
loop-count-preserved c = (
  ready_again _ _ c.step_in-stepped.ensures c.loop-count.invariant.0,
  laying_more _ _ _ _ c.loop-count.invariant.1 c.step_in-stepped.ensures c.loop-count-test.true refl c.width-n.ensures.0
      c.row_for-head.ensures c.is_over.ensures c.if-is_over.false c.put_row.ensures c.row_length-size.ensures,
)

pub returns : goal.returns
returns c =
    laid_whole _ _ _ _ (light_whole c.args.w c.light-walk.ensures c.values-values.ensures) c.with-2.ensures
    (laying_full _ _ _ _ c.loop-count.invariant.1 (omega arith))
