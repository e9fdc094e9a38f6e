-- Progress and stability of trials: what is read behind a kind byte takes no more bytes than there are, and what was got, or is corrupt, stays so
-- when bytes are appended.
use native.Mathlib.Omega.{arith}
use Rattle.plan.specs.Plan.{Shape}
use Rattle.reader.specs.declared.Kind.{Kind}
use Rattle.reader.specs.declared.Kind.TheVariants.{Event, Intra, Inter, Gps, Home, Slow}
use Rattle.reader.proofs.Lawful.{Lawful, lawful_fault, lawful_fewer}
use Rattle.raws.proofs.Lawful.{intra_lawful, inter_lawful, slow_lawful}
use Rattle.raws.proofs.Over.{lawful_over}
use Rattle.event.proofs.Lawful.{event_lawful}
use Rattle.extent.specs.declared.Found.TheVariants as found
use Rattle.extent.specs.Extent.{content, told, trial}

pub trial_lawful : (h : Shape) (k : Kind) → Lawful 0 (trial h k)
unfolding trial
trial_lawful h Event = lawful_over told (lawful_fewer 0 (omega arith) event_lawful)
trial_lawful h Intra = lawful_over (content found.Intra) (lawful_fewer 0 (omega arith) (intra_lawful h.intra))
trial_lawful h Inter = lawful_over (content found.Inter) (lawful_fewer 0 (omega arith) (inter_lawful h.inter))
trial_lawful h Gps = lawful_fault 0
trial_lawful h Home = lawful_fault 0
trial_lawful h Slow = lawful_over (content found.Slow) (slow_lawful h.slow)
