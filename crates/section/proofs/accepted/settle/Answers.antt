-- `section::accepted::settle` meets its contract: the answer, the fields and the history of each kind of frame.
-- Assumes rooms for every field, and a buffer of so many places for them.
use native.Mathlib.Omega.{arith}
use lib.ListN.{length-take}
use Rattle.section.proofs.Effects.{accept_event, accept_intra, accept_inter, accept_slow}
use Rattle.section.proofs.Rooms.{intra_rooms, inter_rooms, slow_rooms}
use Rattle.section.proofs.accepted.settle.Goals as goal

pub slice_bounds-values-end : goal.slice_bounds-values-end
slice_bounds-values-end c = omega (arith, intra_rooms _ _ _ c.intra-main.ensures)

pub slice_bounds-put-end : goal.slice_bounds-put-end
slice_bounds-put-end c = simp length-take (omega (arith, intra_rooms _ _ _ c.intra-main.ensures))

pub slice_bounds-values-end-in-Inter : goal.slice_bounds-values-end-in-Inter
slice_bounds-values-end-in-Inter c = omega (arith, inter_rooms _ _ _ _ c.inter-main.ensures)

pub slice_bounds-put-end-in-Inter : goal.slice_bounds-put-end-in-Inter
slice_bounds-put-end-in-Inter c = simp length-take (omega (arith, inter_rooms _ _ _ _ c.inter-main.ensures))

pub slice_bounds-values-end-in-Slow : goal.slice_bounds-values-end-in-Slow
slice_bounds-values-end-in-Slow c = omega (arith, slow_rooms _ _ c.slow-values.ensures)

pub slice_bounds-put-end-in-Slow : goal.slice_bounds-put-end-in-Slow
slice_bounds-put-end-in-Slow c = simp length-take (omega (arith, slow_rooms _ _ c.slow-values.ensures))

pub returns-in-Event : goal.returns-in-Event
returns-in-Event c = accept_event _ _ _ _ _ _ _ c.in-Event.is (c.looked.ensures _)

pub returns-in-Intra : goal.returns-in-Intra
returns-in-Intra c =
    accept_intra _ _ _ _ _ _ _ c.in-Intra.is c.intra-main.ensures c.fields-n.ensures
    c.put.ensures c.shown.ensures c.pushed.ensures (c.looked-in-Intra.ensures _)

pub returns-in-Inter : goal.returns-in-Inter
returns-in-Inter c =
    accept_inter _ _ _ _ _ _ _ c.in-Inter.is c.inter-main.ensures c.fields-n-in-Inter.ensures
    c.put-in-Inter.ensures c.shown-in-Inter.ensures c.pushed-in-Inter.ensures (c.looked-in-Inter.ensures _)

pub returns-in-Slow : goal.returns-in-Slow
returns-in-Slow c =
    accept_slow _ _ _ _ _ _ _ c.in-Slow.is
    c.slow-values.ensures c.put-in-Slow.ensures (c.looked-in-Slow.ensures _)
