-- `extent::try_kind` meets its contract: each kind has its trial, and G and H are corrupt at once. Assumes a flag that is right.
use Rattle.reader.specs.declared.Kind.TheVariants.{Intra, Inter, Slow}
use Rattle.plan.specs.Plan.{shape}
use Rattle.extent.specs.Extent.{trial}
use Rattle.extent.proofs.Trials.{no_frame, none_of, as_kind, of_kind, goes_on, intra_of, inter_of}
use Rattle.extent.proofs.try_kind.Goals as goal

pub judge-requires : goal.judge-requires
judge-requires c = (goes_on _ _ c.intra_into-reading.ensures, c.requires)

pub judge-requires-in-Inter : goal.judge-requires-in-Inter
judge-requires-in-Inter c = (goes_on _ _ c.inter_into-reading.ensures, c.requires)

pub judge-requires-in-Slow : goal.judge-requires-in-Slow
judge-requires-in-Slow c = (goes_on _ _ c.slow_into-reading.ensures, c.requires)

pub returns-in-Event : goal.returns-in-Event
unfolding trial
returns-in-Event c = as_kind (shape c.args.d) _ c.in-Event.is c.try_event.ensures

pub returns-in-Intra : goal.returns-in-Intra
unfolding trial
returns-in-Intra c =
    of_kind _ _ Intra _ c.in-Intra.is (c.judge.ensures _ (intra_of c.args.d _ _ c.fields.ensures c.intra_into-reading.ensures))

pub returns-in-Inter : goal.returns-in-Inter
unfolding trial
returns-in-Inter c =
    of_kind _ _ Inter _ c.in-Inter.is (c.judge-in-Inter.ensures _ (inter_of c.args.d _ _ c.fields-in-Inter.ensures c.inter_into-reading.ensures))

pub returns-in-Gps : goal.returns-in-Gps
returns-in-Gps c = no_frame _ _ _ (none_of (shape c.args.d) _ c.in-Gps.is) c.get_restore_point.ensures c.rejected.ensures

pub returns-in-Slow : goal.returns-in-Slow
unfolding trial shape
returns-in-Slow c = of_kind _ _ Slow _ c.in-Slow.is (c.judge-in-Slow.ensures _ c.slow_into-reading.ensures)
