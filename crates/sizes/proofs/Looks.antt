-- What a look reads keeps to its room: an iteration and a time of 32 bits.
use Prim.Native.Nat.{ℕ}
use mathlib.Core.List.{List, [], ◌∷◌}
use native.Mathlib.Omega.{arith}
use lib.ListN.{drop}
use Rattle.std.specs.Prelude.{Option, Some, None}
use Rattle.bits.proofs.Laws.{by_test}
use Rattle.plan.specs.Plan.{Shape}
use Rattle.reader.specs.declared.Kind.{Kind}
use Rattle.reader.specs.declared.Kind.TheVariants.{Event, Intra, Inter, Gps, Home, Slow}
use Rattle.reader.specs.Got.{Got, got, cut, corrupt}
use Rattle.reader.specs.Search.{letter_of}
use Rattle.reader.proofs.Every.{Bytes, Every, Reads, any_reads, fault_reads}
use Rattle.raws.specs.declared.Raw.{Raw}
use Rattle.raws.specs.Raws.{raw}
use Rattle.raws.proofs.Counted.{Patterns, intra_patterns, inter_patterns, slow_patterns}
use Rattle.raws.proofs.Over.{over_reads}
use Rattle.event.specs.Events.{event_read}
use Rattle.extent.specs.declared.Look.{Look}
use Rattle.extent.specs.Extent.{Content, no_raw, trial, closed, judged, begun, look}
use Rattle.sizes.proofs.Frames.{RawSized}

no_raw_sized : RawSized no_raw
unfolding raw
no_raw_sized = record { iteration = omega arith; time = omega arith }

from_patterns : (x : Raw) → Patterns x → RawSized x
from_patterns x p = record { iteration = p.iteration_below; time = p.time_below }

abbrev Sized : Content → Type 0
Sized x = RawSized x.raw

trial_sized : (h : Shape) (k : Kind) → Reads Sized (trial h k)
unfolding trial
trial_sized h Event = over_reads _ (any_reads event_read) (λ e _. no_raw_sized)
trial_sized h Intra = over_reads _ (intra_patterns h.intra) from_patterns
trial_sized h Inter = over_reads _ (inter_patterns h.inter) from_patterns
trial_sized h Gps = fault_reads
trial_sized h Home = fault_reads
trial_sized h Slow = over_reads _ (slow_patterns h.slow) from_patterns

judged_sized : (k : Kind) (c : List ℕ) (g : Got Content) → Every Sized g → RawSized (judged k c g).raw
unfolding judged
judged_sized k c (got x u) z = by_test (λ (l : Look). RawSized l.raw) (closed (drop u.bytes c)) (λ _. z) (λ _. no_raw_sized)
judged_sized k c cut z = no_raw_sized
judged_sized k c corrupt z = no_raw_sized

begun_sized : (h : Shape) (l : Option Kind) (c : List ℕ) → Bytes c → RawSized (begun h l c).raw
unfolding begun
begun_sized h (Some k) c b = judged_sized k c (trial h k c) ((trial_sized h k).every c b)
begun_sized h None c b = no_raw_sized

pub look_sized : (h : Shape) (c : List ℕ) → Bytes c → RawSized (look h c).raw
unfolding look
look_sized h [] b = no_raw_sized
look_sized h (x ∷ c) b = begun_sized h (letter_of x) c b.1
