-- `section::quick::accept` meets its contract: the answer, the fields and the history of each kind of frame. It requires rooms for every field.
use mathlib.Core.Path.{refl}
use Rattle.section.proofs.Effects.{accept_event, accept_intra, accept_inter, accept_slow}
use Rattle.section.proofs.Lent.{settled_tells, push_parts}
use Rattle.section.proofs.Padded.{intra_padded, inter_padded, slow_padded}
use Rattle.section.proofs.quick.accept.Goals as goal

pub returns-in-Event : goal.returns-in-Event
returns-in-Event c = accept_event _ _ _ _ _ _ _ c.in-Event.is c.still.ensures

pub returns-in-Intra : goal.returns-in-Intra
returns-in-Intra c =
    accept_intra _ _ _ _ _ _ _ c.in-Intra.is c.intra_in-head.ensures refl (intra_padded _ _ _ c.intra_in-head.ensures c.requires.main)
    c.shown.ensures (push_parts _ _ _ _ _ c.pushed.ensures c.push_values.ensures) (settled_tells _ c.light_with.ensures)

pub returns-in-Inter : goal.returns-in-Inter
returns-in-Inter c =
    accept_inter _ _ _ _ _ _ _ c.in-Inter.is (c.inter_in-head.ensures _) refl (inter_padded _ _ _ _ (c.inter_in-head.ensures 0) c.requires.main)
    c.shown-in-Inter.ensures (push_parts _ _ _ _ _ c.pushed-in-Inter.ensures c.push_values-in-Inter.ensures) (settled_tells _ c.light_with-in-Inter.ensures)

pub returns-in-Slow : goal.returns-in-Slow
returns-in-Slow c =
    accept_slow _ _ _ _ _ _ _ c.in-Slow.is (c.slow_in.ensures _ _)
    (slow_padded _ _ (c.slow_in.ensures 0 0) c.requires.slow) (settled_tells _ c.light_with-in-Slow.ensures)
