-- `walking::fill` meets its contract: no definition, no such kind, a refusal, no room for the numbers, a frame or how the walk ended before it.
-- Assumes nothing.
use mathlib.Core.Path.{refl}
use native.Mathlib.Omega.{arith}
use lib.ListN.{length-take}
use Rattle.dulimasca.proofs.Filling.{fill_no_definition, fill_no_kind, fill_refused, fill_untold, fill_given, values_fit}
use Rattle.dulimasca.proofs.Replying.{long_enough}
use Rattle.dulimasca.proofs.Taken.{handed_on}
use Rattle.dulimasca.proofs.walking.fill.Goals as goal

pub returns-in_err-d : goal.returns-in_err-d
returns-in_err-d c = rw (handed_on c.from_residual.ensures.1) (fill_no_definition _ _ _ _ _ _ c.in_err-d.ensures)

pub returns-in_err-of : goal.returns-in_err-of
returns-in_err-of c = rw (handed_on c.from_residual-in_err-of.ensures.1) (fill_no_kind _ _ _ _ _ _ c.in_ok-d.ensures c.in_err-of.ensures)

pub returns-in_err-check_values : goal.returns-in_err-check_values
returns-in_err-check_values c =
    rw (handed_on c.from_residual-in_err-check_values.ensures.1) (fill_refused _ _ _ _ _ _ c.in_ok-d.ensures c.in_ok-of.ensures c.in_err-check_values.ensures)

pub returns-in_err-room : goal.returns-in_err-room
returns-in_err-room c =
    rw (handed_on c.from_residual-in_err-room.ensures.1)
    (fill_untold _ _ _ _ _ _ c.in_ok-d.ensures c.in_ok-of.ensures c.in_ok-check_values.ensures c.in_err-room.ensures)

pub slice_bounds-fields-end : goal.slice_bounds-fields-end
slice_bounds-fields-end c =
    omega (arith, values_fit _ _ _ c.args.k _ c.args.told.now c.in_ok-d.ensures c.in_ok-of.ensures c.in_ok-check_values.ensures _ c.fields_of-n.ensures)

pub slice_bounds-put_values-end : goal.slice_bounds-put_values-end
slice_bounds-put_values-end c =
    simp length-take
    (omega (arith, values_fit _ _ _ c.args.k _ c.args.told.now c.in_ok-d.ensures c.in_ok-of.ensures c.in_ok-check_values.ensures _ c.fields_of-n.ensures))

pub put_values-requires : goal.put_values-requires
put_values-requires c =
    simp length-take
    (omega (arith, values_fit _ _ _ c.args.k _ c.args.told.now c.in_ok-d.ensures c.in_ok-of.ensures c.in_ok-check_values.ensures _ c.fields_of-n.ensures))

pub tell-requires : goal.tell-requires
tell-requires c = long_enough _ _ c.in_ok-room.ensures

pub returns : goal.returns
returns c =
    fill_given _ _ _ _ _ _ c.in_ok-d.ensures c.in_ok-of.ensures c.in_ok-check_values.ensures c.in_ok-room.ensures _ refl
    c.fill-looked.result c.fill-looked.ensures c.fields_of-n.ensures c.put_values.ensures c.fill_numbers.ensures c.tell.ensures c.number.ensures
