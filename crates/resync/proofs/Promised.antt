-- A run of a function of which only the promise is known:
-- what each of its answers shows, and the walk behind it, are those of the step that it is promised to make.
use Prim.Native.Nat.{ℕ, zero, suc, ◌<◌, ◌≤◌}
use mathlib.Core.Bool.{true}
use mathlib.Core.List.{List}
use mathlib.Core.Path.{◌≡◌, sym, ap, ap₂, subst, ◌∙◌}
use native.Mathlib.Omega.{arith}
use lib.ListN.{length, take}
use borrow.Author.Tests.{le-leb}
use Rattle.plan.specs.declared.Definition.{Definition}
use Rattle.plan.specs.Sound.{sound}
use Rattle.section.specs.declared.Looked.{Looked}
use Rattle.section.specs.declared.Walk.{Walk}
use Rattle.section.specs.Answers.{Told, told, handed, checked_first, hands_out}
use Rattle.section.specs.Refusals.{admitted, needed, checked}
use Rattle.section.specs.Walk.{Outcome}
use Rattle.section.proofs.Admitted.{admitted_sound, sound_rooms}
use Rattle.section.proofs.Paper.{paper_injective}
use Rattle.calls.specs.Call.{after}
use Rattle.calls.proofs.Until.{after_suc, after_keeps}
use Rattle.section.proofs.Fields.{Full, hands_out_rooms, begins_with}
use Rattle.calls.proofs.Turns.{Kept}
use Rattle.resync.specs.Code.{Promise, Run, shown_in, walk_in, Reports}
use Rattle.resync.specs.Runs.{shown, behind}

-- ## Any step that is promised

module _ (d : Definition) (s : List ℕ) (step : Walk → Outcome) where
  -- `look` owes a look so, and `call` a call
  abbrev pub Owes : Promise
  Owes w out r after = told r after ≡ checked_first (checked d w (length s) (length out)) (step w) w out

  -- a walk that is admitted, and a buffer that is long enough: nothing is refused
  module _ (w : Walk) (h : admitted d (length s) w ≡ true) (out : List ℕ) (roomy : needed d ≤ length out)
      (r : Looked) (after : List ℕ) (owes : Owes w out r after) where
    tells : told r after ≡ handed (step w) out
    unfolding checked checked_first
    tells = owes ∙ rw (h, le-leb (needed d) (length out) roomy)

    pub answer_is : r.answer ≡ (step w).answer
    unfolding handed
    answer_is = paper_injective _ _ (ap (λ (x : Told). x.said) tells)

    walk_is : r.walk ≡ (step w).walk
    unfolding handed
    walk_is = ap (λ (x : Told). x.walk) tells

    trials_are : r.trials ≡ r.walk.tally.trials
    unfolding handed
    trials_are = ap (λ (x : Told). x.trials) tells ∙ sym (ap (λ (v : Walk). v.tally.trials) walk_is)

    fields_are : (sound d ≡ true → Full d (step w)) → take (hands_out d r.answer) after ≡ (step w).fields
    unfolding handed
    fields_are full =
        let so : sound d ≡ true = admitted_sound d (length s) w h in
        ap₂ take (ap (hands_out d) answer_is) (ap (λ (x : Told). x.out) tells)
        ∙ begins_with d (step w) out (full so) (hands_out_rooms d (sound_rooms d so roomy) (step w).answer)

  module _ (keeps : (w : Walk) → Kept d s w → Kept d s (step w).walk) (full : sound d ≡ true → (w : Walk) → Full d (step w)) where
    module _ (w : Walk) (four : length w.tally.counts ≡ 4) (k : ℕ) (r : Run Owes d s w k) where
      abbrev at : ℕ → Walk
      at n = after step n w

      kept_at : (n : ℕ) → Kept d s (at n)
      kept_at n = after_keeps step (Kept d s) keeps n w (record { so = r.admits; four = four })

      abbrev Owed : ℕ → Type 0
      Owed n = Owes (at n) (r.lent n) (r.answer n) (r.after n)

      goes_on : (n : ℕ) → n < k → Owed n → (r.answer n).walk ≡ at (suc n)
      goes_on n h owes = walk_is (at n) (kept_at n).so (r.lent n) (r.roomy n h) (r.answer n) (r.after n) owes ∙ sym (after_suc step n w)

      owed : (n : ℕ) → n < k → Owed n
      unfolding after
      owed zero h = r.first h
      owed (suc n) h =
          let before : n < k = omega arith in
          subst (λ v. Owes v (r.lent (suc n)) (r.answer (suc n)) (r.after (suc n))) (goes_on n before (owed n before)) (r.later n h)

      pub run_walk : (n : ℕ) → n < k → walk_in r n ≡ behind step w n
      run_walk n h = goes_on n h (owed n h)

      pub run_shows : (n : ℕ) → n < k → shown_in r n ≡ shown step w n
      unfolding shown
      run_shows n h =
          let same = answer_is (at n) (kept_at n).so (r.lent n) (r.roomy n h) (r.answer n) (r.after n) (owed n h) in
          let begins = fields_are (at n) (kept_at n).so (r.lent n) (r.roomy n h) (r.answer n) (r.after n) (owed n h) (λ so. full so (at n)) in
          λ i. record { answer = same i; fields = begins i }

      pub run_reports : Reports r
      run_reports n h = trials_are (at n) (kept_at n).so (r.lent n) (r.roomy n h) (r.answer n) (r.after n) (owed n h)
