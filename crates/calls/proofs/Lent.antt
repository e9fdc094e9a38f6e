-- The looks of a walk in parts: before each the rooms hold what they held at first. The rooms for the fields are as if they were empty.
use Prim.Native.Nat.{ℕ}
use Rattle.std.specs.Prelude.{Option, None}
use mathlib.Core.Bool.{Bool, true, false}
use mathlib.Core.List.{List}
use mathlib.Core.Path.{◌≡◌, refl, ap, ◌∙◌}
use lib.ListN.{length, replicate}
use Rattle.plan.specs.declared.Definition.{Definition}
use Rattle.plan.specs.Sound.{sound}
use Rattle.history.specs.declared.Heads.{Heads}
use Rattle.extent.specs.declared.Look.{Look}
use Rattle.extent.specs.Owes.{SightOwes}
use Rattle.extent.specs.Sight.{Barren}
use Rattle.section.specs.declared.Looked.{Looked}
use Rattle.section.specs.declared.Tally.{Tally}
use Rattle.section.specs.declared.quick.Light.{Light}
use Rattle.section.specs.declared.quick.Values.{Values}
use Rattle.section.specs.declared.Walk.{Walk}
use Rattle.section.specs.Answers.{Told, told, handed}
use Rattle.section.specs.Lent.{history_beside}
use Rattle.section.specs.Lent as lent
use Rattle.section.specs.Walk.{settled, over}
use Rattle.section.specs.Owes.{HandOutOwes}
use Rattle.section.specs.Refusals.{admitted}
use Rattle.section.proofs.Admitted.{admitted_sound}
use Rattle.section.proofs.Alike.{is_going}
use Rattle.section.proofs.Fields.{sane, handed_out}
use Rattle.section.proofs.Lent.{light_whole}
use Rattle.calls.specs.declared.quick.Stepped.{Stepped}
use Rattle.calls.specs.Lent.{called_of, StepsIn, over_beside}
use Rattle.calls.specs.Steps.{vain, Steps}
use Rattle.calls.specs.Call.{called}
use Rattle.calls.proofs.Fields.{called_full}
use Rattle.calls.proofs.Loop.{walk_of, Stands, ended_steps, stands_last}
use Rattle.calls.proofs.Turns.{Kept, Ready, ready_first}

pub record Lies (d : Definition) (s : List ℕ) (v₀ : Values) (hs : Heads) (t₀ : Tally) (v : Values) (t : Tally) (known : Bool) : Type 0 where
  pub kept : v ≡ v₀
  pub stands : Stands d s (history_beside hs v₀) t₀ t known

-- a look that says something is the call
pub lies_last : (d : Definition) (s : List ℕ) {v₀ : Values} {hs : Heads} {t₀ : Tally} {v : Values} {t : Tally} {known : Bool}
    → Lies d s v₀ hs t₀ v t known → {l : Look} → SightOwes d s t.place l → {b : Option Bool} → b ≡ vain l.seen → b ≡ None
    → (looked : Looked) {after : List ℕ} → told looked after ≡ handed (settled d l (length s) (walk_of t (history_beside hs v))) (replicate 62 0)
    → Steps d (walk_of t₀ (history_beside hs v₀)) s (replicate 62 0) (record { looked = looked; barren = known }) after
lies_last d s {hs = hs} {t = t} li {l} saw is speaks looked tells =
    stands_last d s li.stands saw is speaks looked (replicate 62 0)
    (tells ∙ ap (λ u. handed (settled d l (length s) (walk_of t (history_beside hs u))) (replicate 62 0)) li.kept)

-- a walk that has ended stays as it is
pub ended_in : (d : Definition) (w : Light) (s : List ℕ) (v : Values) {r : Stepped} {barren : Bool} {after : Values} → is_going w.tally.ending ≡ false
    → (r ≡ over_beside w barren) × (after ≡ record { last = v.last; older = v.older; fields = replicate 62 0 }) → Barren barren s w.tally.place
    → StepsIn d w s v r after
unfolding over handed
ended_in d w s v {barren = barren} ended (e, f) right =
    rw (e, f) (ended_steps d (lent.walk_of w v) s (replicate 62 0) (called_of (over_beside w barren) v).looked barren ended (λ o. refl) right)

-- the first step of a walk that is taken apart
pub ready_light : (d : Definition) (s : List ℕ) (w : Walk) {l : Light} {v : Values} → l ≡ lent.light_of w → v ≡ lent.values_of w → Kept d s w
    → Ready d s (lent.walk_of l v) false
ready_light d s w e f kept = rw (light_whole w e f) (ready_first d s w kept)

-- a step handed out to a buffer is the call
pub stepped_out : (d : Definition) (s : List ℕ) {l : Light} (v : Values) → sound d ≡ true → (x : Stepped) (u : Values) → StepsIn d l s v x u
    → (out : List ℕ) (r : Looked) {after : List ℕ} → HandOutOwes d (record { answer = x.answer; walk = x.walk }) u out r after
    → told r after ≡ handed (called d s (lent.walk_of l v)) out
stepped_out d s {l} v h x u st out r owes =
    let w = lent.walk_of l v in
    handed_out d (sane d h) (called d s w) (called_full d h s w) (record { answer = x.answer; walk = x.walk }) u st.tells out r owes

-- the same of a walk that is taken apart
module _ (d : Definition) (s : List ℕ) (w : Walk) {l : Light} {v : Values} (parts : l ≡ lent.light_of w) (beside : v ≡ lent.values_of w) where
  pub apart_admitted : admitted d (length s) w ≡ true → admitted d (length s) (lent.walk_of l v) ≡ true
  apart_admitted h = rw (light_whole w parts beside) h

  pub apart_barren : {barren : Bool} → Barren barren s w.tally.place → Barren barren s l.tally.place
  apart_barren right = rw parts right

  pub joined : admitted d (length s) w ≡ true → (out : List ℕ) (x : Stepped) (u : Values) → StepsIn d l s v x u
      → (r : Looked) {after : List ℕ} → HandOutOwes d (record { answer = x.answer; walk = x.walk }) u out r after
      → Steps d w s out (record { looked = r; barren = x.barren }) after
  joined h out x u st r owes =
      let left : r.walk ≡ lent.walk_of x.walk u = ap (λ (y : Told). y.walk) owes in
      record {
        tells = stepped_out d s v (admitted_sound d (length s) w h) x u st out r owes ∙ ap (λ w. handed (called d s w) out) (light_whole w parts beside);
        barren = rw left st.barren;
      }
