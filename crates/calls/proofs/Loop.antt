-- How the code calls. A walk that has ended stays as it is. One that goes on looks in a loop: what is known before each look, how a look in vain keeps it,
-- and that a look which says something is the call.
use Prim.Native.Nat.{ℕ, ◌-◌, ◌<◌, ◌≤◌}
use Rattle.std.specs.Prelude.{Option, Some, None, is_none}
use mathlib.Core.Bool.{Bool, true, false}
use mathlib.Core.List.{List, []}
use mathlib.Core.Path.{◌≡◌, refl, sym, ap, ◌∙◌}
use native.Mathlib.Omega.{arith}
use lib.ListN.{length, drop}
use Rattle.plan.specs.declared.Definition.{Definition}
use Rattle.plan.specs.Plan.{shape}
use Rattle.raws.specs.declared.Raw.{Raw}
use Rattle.history.specs.declared.History.{History}
use Rattle.extent.specs.declared.Found.{Found}
use Rattle.extent.specs.declared.Found.TheVariants as found
use Rattle.extent.specs.declared.Look.{Look}
use Rattle.extent.specs.declared.Seen.{Seen}
use Rattle.extent.specs.declared.Seen.TheVariants.{Nothing, Passed, Rejected, Cutoff, Accepted}
use Rattle.extent.specs.Extent.{look}
use Rattle.extent.specs.Owes.{SightOwes}
use Rattle.extent.specs.Sight.{Barren}
use Rattle.extent.proofs.Flag.{passed_barren, rejected_barren, barren_stays}
use Rattle.extent.proofs.Reach.{look_reaches}
use Rattle.section.specs.declared.Ending.TheVariants.{Going}
use Rattle.section.specs.declared.Looked.{Looked}
use Rattle.section.specs.declared.Tally.{Tally}
use Rattle.section.specs.declared.Walk.{Walk}
use Rattle.section.specs.Answers.{Told, told, handed}
use Rattle.section.specs.Fits.{Fits}
use Rattle.section.specs.Owes.{OverOwes}
use Rattle.section.specs.Refusals.{admitted}
use Rattle.section.specs.Tally.{place_after, ending_after, tally_after}
use Rattle.section.specs.Walk.{Outcome, answer_with, answer_after, history_after, settled, over, tick}
use Rattle.section.proofs.Admitted.{admitted_place, admitted_fits}
use Rattle.section.proofs.Alike.{is_going}
use Rattle.section.proofs.Stays.{tick_admitted, tick_going, tick_counts}
use Rattle.calls.specs.Call.{says, called}
use Rattle.calls.specs.Steps.{vain, Steps}
use Rattle.calls.proofs.Calls.{called_ended, called_place}
use Rattle.calls.proofs.Ticks.{tick_moves, call_vain, call_says}

-- ## A walk that has ended

pub ended_steps : (d : Definition) (w : Walk) (s out : List ℕ) (looked : Looked) (barren : Bool) → is_going w.tally.ending ≡ false → OverOwes w looked
    → Barren barren s w.tally.place → Steps d w s out (record { looked = looked; barren = barren }) out
unfolding handed over
ended_steps d w s out looked barren ended tells right =
    let same : looked.walk ≡ w = ap (λ (x : Told). x.walk) (tells []) in
    record { tells = tells out ∙ ap (λ o. handed o out) (sym (called_ended d s w ended)); barren = rw same right }

-- ## In vain or not, by what is seen

frame_says : (d : Definition) (f : Found) (p : ℕ) (raw : Raw) (h : History) → says (answer_with d f p raw h) ≡ true
unfolding answer_with says
frame_says d (found.Event e) p raw h = refl
frame_says d found.Intra p raw h = refl
frame_says d found.Inter p raw h = refl
frame_says d found.Slow p raw h = refl

module _ (d : Definition) (p : ℕ) (raw : Raw) (h : History) where
  seen_says : (x : Seen) → vain x ≡ None → says (answer_after d x p raw h) ≡ true
  unfolding vain answer_after says
  seen_says Nothing e = refl
  seen_says (Passed s) e = cc
  seen_says (Rejected k s) e = cc
  seen_says (Cutoff k) e = refl
  seen_says (Accepted f m) e = frame_says d f p raw h

  -- a look in vain says nothing, changes no history and ends no walk
  seen_vain : {b : Bool} (x : Seen) → vain x ≡ Some b
      → (says (answer_after d x p raw h) ≡ false) × (history_after d x raw h ≡ h) × (ending_after x p ≡ Going)
  unfolding vain answer_after says history_after ending_after
  seen_vain Nothing e = cc
  seen_vain (Passed s) e = (refl, refl, refl)
  seen_vain (Rejected k s) e = (refl, refl, refl)
  seen_vain (Cutoff k) e = cc
  seen_vain (Accepted f m) e = cc

-- its search tells whether a later one has anything to find
vain_barren : (d : Definition) (s : List ℕ) (p : ℕ) {b : Bool} (x : Seen) → (look (shape d) (drop p s)).seen ≡ x → vain x ≡ Some b
    → Barren b s (place_after x (length s) p)
unfolding vain place_after
vain_barren d s p Nothing is e = cc
vain_barren d s p {b} (Passed k) is e = let z : is_none k ≡ b = cc in rw (← z) (passed_barren (shape d) s p k is)
vain_barren d s p {b} (Rejected j k) is e = let z : is_none k ≡ b = cc in rw (← z) (rejected_barren (shape d) s p j k is)
vain_barren d s p (Cutoff k) is e = cc
vain_barren d s p (Accepted f m) is e = cc

-- ## The loop

abbrev pub walk_of : Tally → History → Walk
walk_of t h = record { tally = t; history = h }

-- Before a look: the walk that stands there is admitted and goes on, its call is the first walk's, and the flag is right.
pub record Stands (d : Definition) (s : List ℕ) (h : History) (t₀ t : Tally) (known : Bool) : Type 0 where
  pub so : admitted d (length s) (walk_of t h) ≡ true
  pub four : length t.counts ≡ 4
  pub going : t.ending ≡ Going
  pub same : called d s (walk_of t h) ≡ called d s (walk_of t₀ h)
  pub right : Barren known s t.place

pub stands_first : (d : Definition) (s : List ℕ) (w : Walk) (known : Bool) → admitted d (length s) w ≡ true → w.tally.ending ≡ Going
    → Barren known s w.tally.place → length w.tally.counts ≡ 4 → Stands d s w.history w.tally w.tally known
stands_first d s w known a g r f = record { so = a; four = f; going = g; same = refl; right = r }

module _ (d : Definition) (s : List ℕ) {h : History} {t₀ t : Tally} {known : Bool}
    (st : Stands d s h t₀ t known) {l : Look} (saw : SightOwes d s t.place l) where
  pub stands_fits : Fits t l.seen (length s)
  stands_fits =
      admitted_fits d (length s) (walk_of t h) st.so l.seen
      (rw saw (look_reaches (shape d) s t.place (admitted_place d (length s) (walk_of t h) st.so))) st.four

  ticks : tick d s (walk_of t h) ≡ settled d l (length s) (walk_of t h)
  ticks = tick_going d s (walk_of t h) st.going ∙ ap (λ x. settled d x (length s) (walk_of t h)) (sym saw)

  module _ {v : Option Bool} (is : v ≡ vain l.seen) where
    module _ {b : Bool} (searched : v ≡ Some b) {t' : Tally} (next : t' ≡ tally_after l.seen (length s) t) where
      in_vain : vain l.seen ≡ Some b
      in_vain = sym is ∙ searched

      does : (says (answer_after d l.seen t.place l.raw h) ≡ false)
          × (history_after d l.seen l.raw h ≡ h) × (ending_after l.seen t.place ≡ Going)
      does = seen_vain d t.place l.raw h l.seen in_vain

      on : (tick d s (walk_of t h)).walk ≡ walk_of t' h
      unfolding settled
      on = ap (λ o. o.walk) ticks ∙ λ i. record { tally = sym next i; history = does.1 i }

      quiet : says (tick d s (walk_of t h)).answer ≡ false
      unfolding settled
      quiet = ap (λ o. says o.answer) ticks ∙ does.0

      place_next : t'.place ≡ place_after l.seen (length s) t.place
      unfolding tally_after
      place_next = ap (λ x. x.place) next

      pub stands_on : Stands d s h t₀ t' b
      unfolding tally_after
      stands_on =
          record {
            so = rw on at (tick_admitted d s (walk_of t h) st.so st.four);
            four = ap (λ (x : Walk). length x.tally.counts) (sym on) ∙ tick_counts d s (walk_of t h) ∙ st.four;
            going = ap (λ x. x.ending) next ∙ does.2;
            same = ap (called d s) (sym on) ∙ sym (call_vain d s (walk_of t h) quiet) ∙ st.same;
            right = rw place_next (vain_barren d s t.place l.seen (ap (λ x. x.seen) (sym saw)) in_vain);
          }

      pub less_left : length s - t'.place < length s - t.place
      less_left =
          let far : t.place < t'.place = rw on at (tick_moves d s (walk_of t h) quiet) in
          let near : t'.place ≤ length s = admitted_place d (length s) (walk_of t' h) stands_on.so in
          omega arith

    module _ (speaks : v ≡ None) where
      loud : says (tick d s (walk_of t h)).answer ≡ true
      unfolding settled
      loud = ap (λ o. says o.answer) ticks ∙ seen_says d t.place l.raw h l.seen (sym is ∙ speaks)

      is_call : settled d l (length s) (walk_of t h) ≡ called d s (walk_of t₀ h)
      is_call = sym ticks ∙ sym (call_says d s (walk_of t h) loud) ∙ st.same

      module _ (looked : Looked) (out : List ℕ) {after : List ℕ} (tells : told looked after ≡ handed (settled d l (length s) (walk_of t h)) out) where
        all_told : told looked after ≡ handed (called d s (walk_of t₀ h)) out
        all_told = tells ∙ ap (λ o. handed o out) is_call

        place_on : t.place ≤ looked.walk.tally.place
        unfolding handed
        place_on =
            let e : looked.walk ≡ (called d s (walk_of t h)).walk = ap (λ (x : Told). x.walk) all_told ∙ ap (λ (o : Outcome). o.walk) (sym st.same) in
            rw e (called_place d s (walk_of t h))

        pub stands_last : Steps d (walk_of t₀ h) s out (record { looked = looked; barren = known }) after
        stands_last = record { tells = all_told; barren = barren_stays known s t.place looked.walk.tally.place place_on st.right }
