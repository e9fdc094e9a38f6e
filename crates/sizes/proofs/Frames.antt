-- Main frames keep to their room: 62 values of 32 bits, an iteration of 32, a time of 64; and so does the history behind an accepted frame.
use Prim.Native.Nat.{ℕ}
use mathlib.Core.List.{List, []}
use native.Mathlib.Omega.{arith}
use lib.ListN.{replicate}
use lib.Seq.{length-sets}
use Rattle.std.specs.Prelude.{Option, None}
use Rattle.plan.specs.declared.Definition.{Definition}
use Rattle.plan.specs.Plan.{Shape, Rules, shape, rules}
use Rattle.raws.specs.declared.Raw.{Raw}
use Rattle.frame.specs.declared.Mark.{Mark}
use Rattle.frame.specs.declared.Mark.TheVariants.{Absent, Intra, Inter}
use Rattle.frame.specs.Frames.{intra_fields, inter_fields, values_in, intra_frame, inter_frame}
use Rattle.frame.specs.Past.{Past, main_frame, no_frame}
use Rattle.frame.specs.Values.{Fields, values_of}
use Rattle.frame.proofs.Own.{values_below, inter_time_below, inter_iteration_below}
use Rattle.history.specs.declared.History.{History}
use Rattle.history.specs.History.{pushed, past}
use Rattle.extent.specs.declared.Found.{Found}
use Rattle.extent.specs.declared.Found.TheVariants as found
use Rattle.extent.specs.declared.Seen.{Seen}
use Rattle.extent.specs.declared.Seen.TheVariants.{Nothing, Passed, Rejected, Cutoff, Accepted}
use Rattle.section.specs.Walk.{history_with, history_after}
use Rattle.sizes.specs.Sized.{Is32, Is64, Each, FrameSized}
use Rattle.sizes.proofs.Lists.{each_below, padded_each}

-- the iteration and the time that were read
pub record RawSized (x : Raw) : Type 0 where
  pub iteration : Is32 x.iteration
  pub time : Is32 x.time

-- ## Frames

-- with any numbers and values that fit
main_sized : (m : Mark) (i t : ℕ) (vs : List ℕ) → Is32 i → Is64 t → Each Is32 vs → FrameSized (main_frame m i t vs)
main_sized m i t vs a b c = record { iteration = a; time = b; long = length-sets (replicate 62 0) 0 vs; small = padded_each 62 vs c }

-- with values made of raw numbers: these fit whatever they are made of
made_sized : (m : Mark) (i t : ℕ) (f : Fields) (last older : Option (List ℕ)) (raws : List ℕ)
    → Is32 i → Is64 t → FrameSized (main_frame m i t (values_of f last older raws))
made_sized m i t f last older raws a b =
    let vs : List ℕ = values_of f last older raws in
    main_sized m i t vs a b (each_below vs (values_below f last older raws))

pub no_frame_sized : FrameSized no_frame
unfolding no_frame
no_frame_sized = main_sized Absent 0 0 [] (omega arith) (omega arith) tt

module _ (h : Shape) (r : Rules) (p : Past) (x : Raw) where
  pub intra_sized : RawSized x → FrameSized (intra_frame h r p x)
  unfolding intra_frame
  intra_sized z = made_sized Intra x.iteration x.time (intra_fields h r) (values_in p.last) None x.fields z.iteration (omega (arith, z.time))

  -- whatever was read
  pub inter_sized : FrameSized (inter_frame h r p x)
  unfolding inter_frame
  inter_sized =
      made_sized Inter _ _ (inter_fields h r p) (values_in p.last) (values_in p.older) x.fields (inter_iteration_below h r p x)
      (omega (arith, inter_time_below h r p x))

-- ## The history

abbrev pub HistorySized : History → Type 0
HistorySized h = FrameSized h.last × FrameSized h.older

module _ (d : Definition) (x : Raw) (h : History) (raw : RawSized x) (z : HistorySized h) where
  with_sized : (f : Found) → HistorySized (history_with d f x h)
  unfolding history_with pushed
  with_sized (found.Event e) = z
  with_sized found.Intra = (intra_sized (shape d) (rules d) (past h) x raw, z.0)
  with_sized found.Inter = (inter_sized (shape d) (rules d) (past h) x, z.0)
  with_sized found.Slow = z

  pub history_sized : (y : Seen) → HistorySized (history_after d y x h)
  unfolding history_after
  history_sized Nothing = z
  history_sized (Passed s) = z
  history_sized (Rejected k s) = z
  history_sized (Cutoff k) = z
  history_sized (Accepted f m) = with_sized f
