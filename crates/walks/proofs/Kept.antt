-- What calls keep, whole walks keep: an admitted walk stays admitted, its place never falls and stays within the section, and its trials are no more
-- than the section's bytes and the sum of their parts.
use Prim.Native.Nat.{ℕ, ◌≤◌}
use mathlib.Core.Bool.{true}
use mathlib.Core.List.{List}
use mathlib.Core.Path.{◌≡◌}
use native.Mathlib.Omega.{arith}
use lib.ListN.{length}
use Rattle.plan.specs.declared.Definition.{Definition}
use Rattle.section.specs.declared.Walk.{Walk}
use Rattle.section.specs.Refusals.{admitted, parts_of}
use Rattle.section.proofs.Admitted.{admitted_place, admitted_few, admitted_sum}
use Rattle.calls.specs.Call.{left, called}
use Rattle.calls.proofs.Until.{after_keeps, until_keeps}
use Rattle.calls.proofs.Calls.{called_place}
use Rattle.calls.proofs.Turns.{Kept, called_kept}
use Rattle.walks.specs.declared.Goal.{Goal}
use Rattle.walks.specs.Walks.{is_last, after_calls, walked}

module _ (d : Definition) (s : List ℕ) where
  -- ## Any number of calls

  pub after_admitted : (n : ℕ) (w : Walk) → admitted d (length s) w ≡ true → length w.tally.counts ≡ 4 → admitted d (length s) (after_calls n d s w) ≡ true
  after_admitted n w h four = (after_keeps (called d s) (Kept d s) (called_kept d s) n w (record { so = h; four = four })).so

  -- ## A whole walk

  module _ (goal : Goal) (w : Walk) where
    walked_keeps : (P : Walk → Type 0) → ((v : Walk) → P v → P (called d s v).walk) → P w → P (walked goal d s w).walk
    unfolding walked
    walked_keeps P keeps = until_keeps (called d s) (is_last goal) P keeps (left s w) w

    module _ (h : admitted d (length s) w ≡ true) (four : length w.tally.counts ≡ 4) where
      pub walked_admitted : admitted d (length s) (walked goal d s w).walk ≡ true
      walked_admitted = (walked_keeps (Kept d s) (called_kept d s) (record { so = h; four = four })).so

      pub walked_place : (w.tally.place ≤ (walked goal d s w).walk.tally.place) × ((walked goal d s w).walk.tally.place ≤ length s)
      walked_place = (
        walked_keeps (λ v. w.tally.place ≤ v.tally.place) (λ v far. omega (arith, called_place d s v)) (omega arith),
        admitted_place d (length s) (walked goal d s w).walk walked_admitted,
      )

      pub walked_trials : ((walked goal d s w).walk.tally.trials ≤ length s)
          × ((walked goal d s w).walk.tally.trials ≡ parts_of (walked goal d s w).walk.tally)
      walked_trials =
          let v = (walked goal d s w).walk in
          (omega (arith, admitted_few d (length s) v walked_admitted, walked_place), admitted_sum d (length s) v walked_admitted)
