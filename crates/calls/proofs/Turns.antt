-- Calls one after another, as a loop of whole walks makes them: what is known before each step, and how a step keeps it and leaves fewer bytes.
-- It is wanted by crate walks, which goes to a goal, and by crate session, which prints.
use Prim.Native.Nat.{ℕ, ◌<◌}
use mathlib.Core.Bool.{Bool, true, false}
use mathlib.Core.List.{List}
use mathlib.Core.Path.{◌≡◌, refl, sym, ap, ◌∙◌}
use native.Mathlib.Omega.{arith}
use lib.ListN.{length}
use lib.Seq.{sets}
use Rattle.plan.specs.declared.Definition.{Definition}
use Rattle.plan.specs.Sound.{sound}
use Rattle.extent.specs.Sight.{Barren}
use Rattle.extent.proofs.Flag.{barren_false}
use Rattle.section.specs.declared.Walk.{Walk}
use Rattle.section.specs.Answers.{Told, handed, is_over}
use Rattle.section.specs.Fits.{Rooms}
use Rattle.section.specs.Refusals.{admitted}
use Rattle.section.specs.Walk.{start, tick}
use Rattle.section.proofs.Admitted.{admitted_sound, sound_rooms, needed_rooms}
use Rattle.section.proofs.Paper.{paper_injective}
use Rattle.section.proofs.Stays.{start_admitted, tick_admitted, tick_counts}
use Rattle.calls.specs.declared.Called.{Called}
use Rattle.calls.specs.Call.{left, called}
use Rattle.calls.specs.Steps.{Steps}
use Rattle.calls.proofs.Calls.{called_admitted, called_counts, called_less}

-- an admitted walk, with four counts as every walk of the code has
pub record Kept (d : Definition) (s : List ℕ) (w : Walk) : Type 0 where
  pub so : admitted d (length s) w ≡ true
  pub four : length w.tally.counts ≡ 4

-- Before a step: the walk that stands there is kept, and the flag is right.
pub record Ready (d : Definition) (s : List ℕ) (w : Walk) (barren : Bool) : Type 0 where
  pub kept : Kept d s w
  pub right : Barren barren s w.tally.place

module _ (d : Definition) (s : List ℕ) where
  pub tick_kept : (w : Walk) → Kept d s w → Kept d s (tick d s w).walk
  tick_kept w k = record { so = tick_admitted d s w k.so k.four; four = tick_counts d s w ∙ k.four }

  pub called_kept : (w : Walk) → Kept d s w → Kept d s (called d s w).walk
  called_kept w k = record { so = called_admitted d s w k.so k.four; four = called_counts d s w ∙ k.four }

  -- ## The first step

  pub ready_first : (w : Walk) → Kept d s w → Ready d s w false
  ready_first w k = record { kept = k; right = barren_false s w.tally.place }

  -- from the start, of which a caller has the walk
  pub ready_start : {w : Walk} → sound d ≡ true → w ≡ start → Ready d s w false
  unfolding start
  ready_start h e = rw e (ready_first start (record { so = start_admitted d (length s) h; four = refl }))

  -- ## Each step

  module _ {w : Walk} {barren : Bool} (t : Ready d s w barren) where
    pub ready_sound : sound d ≡ true
    ready_sound = admitted_sound d (length s) w t.kept.so

    -- the buffers of these loops have 62 places
    pub ready_rooms : {room : ℕ} → room ≡ 62 → Rooms d room
    ready_rooms e = sound_rooms d ready_sound (omega (arith, needed_rooms d ready_sound))

  module _ {w : Walk} {out after : List ℕ} {r : Called} (st : Steps d w s out r after) where
    pub answer_is : r.looked.answer ≡ (called d s w).answer
    unfolding handed
    answer_is = paper_injective _ _ (ap (λ (x : Told). x.said) st.tells)

    pub walk_is : r.looked.walk ≡ (called d s w).walk
    unfolding handed
    walk_is = ap (λ (x : Told). x.walk) st.tells

    pub values_are : after ≡ sets out 0 (called d s w).fields
    unfolding handed
    values_are = ap (λ (x : Told). x.out) st.tells

    pub ready_again : {barren : Bool} → Ready d s w barren → Ready d s r.looked.walk r.barren
    ready_again t = record { kept = rw walk_is (called_kept w t.kept); right = st.barren }

    pub ready_less : is_over r.looked.answer ≡ false → left s r.looked.walk < left s w
    ready_less going = rw walk_is (called_less d s w (ap is_over (sym answer_is) ∙ going))
