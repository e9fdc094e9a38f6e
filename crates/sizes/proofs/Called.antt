-- THE NUMBERS OF A WALK KEEP TO THEIR ROOM: at the start, behind a look, behind a call.
use Prim.Native.Nat.{ℕ, ◌<◌}
use mathlib.Core.Bool.{true}
use mathlib.Core.List.{List}
use mathlib.Core.Path.{◌≡◌, refl}
use native.Mathlib.Omega.{arith}
use lib.ListN.{length, drop, get_or}
use Rattle.plan.specs.declared.Definition.{Definition}
use Rattle.plan.specs.Plan.{shape}
use Rattle.reader.proofs.Every.{drop_each}
use Rattle.raws.proofs.Turns.{bytes_of}
use Rattle.history.specs.History.{empty}
use Rattle.extent.specs.declared.Look.{Look}
use Rattle.extent.specs.Extent.{look}
use Rattle.section.specs.declared.Ending.{Ending}
use Rattle.section.specs.declared.Ending.TheVariants.{Going, Done, Out, Cut}
use Rattle.section.specs.declared.Walk.{Walk}
use Rattle.section.specs.Refusals.{admitted}
use Rattle.section.specs.Tally.{tally_after}
use Rattle.section.specs.Walk.{Outcome, start, settled, over, if_going, tick}
use Rattle.calls.specs.Call.{is_said, left, called}
use Rattle.calls.proofs.Turns.{Kept, tick_kept}
use Rattle.calls.proofs.Until.{until_keeps}
use Rattle.sizes.specs.Sized.{EndingSized, WalkSized}
use Rattle.sizes.proofs.Frames.{RawSized, HistorySized, no_frame_sized, history_sized}
use Rattle.sizes.proofs.Looks.{look_sized}
use Rattle.sizes.proofs.Tallies.{ending_sized, tally_sized}

pub start_sized : WalkSized start
unfolding start empty
start_sized =
    record {
      tally =
          record {
            place = omega arith;
            ending = tt;
            four = refl;
            counts = (omega arith, (omega arith, (omega arith, (omega arith, tt))));
            trials = omega arith;
          };
      last = no_frame_sized;
      older = no_frame_sized;
    }

-- ## Behind a look

-- what is not had from an admitted walk
abbrev Rest : Walk → Type 0
Rest w = EndingSized w.tally.ending × HistorySized w.history

-- what holds behind a look and of a walk that has ended holds behind a tick
either : (P : Outcome → Type 0) (e : Ending) {x y : Outcome} → P x → P y → P (if_going e x y)
either P Going p q = p
either P Done p q = q
either P Out p q = q
either P (Cut k n) p q = q

settled_rest : (d : Definition) (l : Look) (z : ℕ) (w : Walk) → RawSized l.raw → WalkSized w → Rest (settled d l z w).walk
unfolding settled tally_after
settled_rest d l z w raw k =
    (ending_sized l.seen w.tally.place k.tally.place, history_sized d l.raw w.history raw (k.last, k.older) l.seen)

module _ (d : Definition) (s : List ℕ) (bytes : (i : ℕ) → get_or s i 0 < 256) (short : length s < 18446744073709551616) where
  tick_rest : (w : Walk) → WalkSized w → Rest (tick d s w).walk
  unfolding tick over
  tick_rest w k =
      let c : List ℕ = drop w.tally.place s in
      let raw = look_sized (shape d) c (drop_each (λ b. b < 256) w.tally.place s (bytes_of s bytes)) in
      either (λ (o : Outcome). Rest o.walk) w.tally.ending (settled_rest d (look (shape d) c) (length s) w raw k) (k.tally.ending, (k.last, k.older))

  -- an admitted walk whose numbers fit
  abbrev Fine : Walk → Type 0
  Fine w = Kept d s w × WalkSized w

  tick_fine : (w : Walk) → Fine w → Fine (tick d s w).walk
  tick_fine w k =
      let kept = tick_kept d s w k.0 in
      let rest = tick_rest w k.1 in
      (kept, record { tally = tally_sized d (length s) (tick d s w).walk kept.so kept.four short rest.0; last = rest.1.0; older = rest.1.1 })

  called_fine : (w : Walk) → Fine w → Fine (called d s w).walk
  unfolding called
  called_fine w = until_keeps (tick d s) is_said Fine tick_fine (left s w) w

-- ## Behind a call

pub called_sized : (d : Definition) (s : List ℕ) → ((i : ℕ) → get_or s i 0 < 256) → length s < 18446744073709551616 → (w : Walk)
    → admitted d (length s) w ≡ true
    → WalkSized w → WalkSized (called d s w).walk
called_sized d s bytes short w h k = (called_fine d s bytes short w (record { so = h; four = k.tally.four }, k)).1
