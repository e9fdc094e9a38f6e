-- Once a call is over, every later call gives the same: done, out of data and cut last (document 01, "The walk").
-- So a whole walk ends the same from any of its calls on.
use Prim.Native.Nat.{ℕ, zero, suc}
use mathlib.Core.Bool.{Bool, true, false, false≢true}
use mathlib.Core.List.{List, []}
use mathlib.Core.Path.{◌≡◌, refl, sym, ap, ◌∙◌}
use lib.ListN.{length}
use Rattle.plan.specs.declared.Definition.{Definition}
use Rattle.raws.specs.declared.Raw.{Raw}
use Rattle.history.specs.declared.History.{History}
use Rattle.extent.specs.declared.Found.{Found}
use Rattle.extent.specs.declared.Found.TheVariants as found
use Rattle.extent.specs.declared.Seen.{Seen}
use Rattle.extent.specs.declared.Seen.TheVariants.{Nothing, Passed, Rejected, Cutoff, Accepted}
use Rattle.section.specs.declared.Walk.{Walk}
use Rattle.section.specs.Tally.{ending_after, tally_after}
use Rattle.section.specs.Walk.{Outcome, answer_with, answer_after, fields_after, history_after, settled, over, tick}
use Rattle.section.specs.Answers.{is_over, handed, checked_first}
use Rattle.calls.specs.Call.{after, says, called}
use Rattle.section.proofs.Stays.{tick_by}
use Rattle.calls.proofs.Fields.{called_by}
use Rattle.calls.proofs.Ticks.{over_says, call_says}
use Rattle.calls.proofs.Turns.{Kept, called_kept}
use Rattle.walks.specs.declared.Goal.TheVariants.{End}
use Rattle.walks.specs.Walks.{is_reached, is_last, walked, checked_state, through_of}
use Rattle.walks.proofs.Walks.{walk_last, walk_on}

-- an accepted frame is not over
frame_goes_on : (d : Definition) (f : Found) (p : ℕ) (x : Raw) (h : History) → is_over (answer_with d f p x h) ≡ false
unfolding answer_with is_over
frame_goes_on d (found.Event e) p x h = refl
frame_goes_on d found.Intra p x h = refl
frame_goes_on d found.Inter p x h = refl
frame_goes_on d found.Slow p x h = refl

module _ (d : Definition) (s : List ℕ) where
  abbrev Stays : Outcome → Type 0
  Stays o = is_over o.answer ≡ true → tick d s o.walk ≡ o

  settled_stays : (w : Walk) (y : Seen) (x : Raw) → Stays (settled d (record { seen = y; raw = x }) (length s) w)
  unfolding settled answer_after fields_after history_after tally_after ending_after tick over is_over
  settled_stays w Nothing x e = refl
  settled_stays w (Passed k) x e = absurd (false≢true e)
  settled_stays w (Rejected k j) x e = absurd (false≢true e)
  settled_stays w (Cutoff k) x e = refl
  settled_stays w (Accepted f m) x e = absurd (false≢true (sym (frame_goes_on d f w.tally.place x w.history) ∙ e))

  tick_stays : (w : Walk) → Stays (tick d s w)
  unfolding over
  tick_stays w = tick_by d s Stays w (λ _. settled_stays w _ _) (λ same e. same)

  call_stays : (w : Walk) → Stays (called d s w)
  call_stays = called_by d s Stays tick_stays

  pub over_stays : (w : Walk) → is_over (called d s w).answer ≡ true → called d s (called d s w).walk ≡ called d s w
  over_stays w e =
      let same = call_stays w e in
      call_says d s (called d s w).walk (ap (λ o. says o.answer) same ∙ over_says (called d s w).answer e) ∙ same

-- ## A whole walk, from any of its calls on

module _ (d : Definition) (s : List ℕ) where
  -- where a call is over, so is the next, and gives the same; where it is not, the walk goes on from there
  walked_behind : (w : Walk) → walked End d s (called d s w).walk ≡ walked End d s w
  unfolding is_last is_reached
  walked_behind w = by (is_over (called d s w).answer) refl
    where
      by : (t : Bool) → is_over (called d s w).answer ≡ t → walked End d s (called d s w).walk ≡ walked End d s w
      by true e =
          let same = over_stays d s w e in
          let next : is_over (called d s (called d s w).walk).answer ≡ true = ap (λ o. is_over o.answer) same ∙ e in
          walk_last End d s (called d s w).walk (rw next) ∙ same ∙ sym (walk_last End d s w (rw e))
      by false e = sym (walk_on End d s w (rw e))

  through_behind : (w : Walk) → Kept d s w → through_of d s (called d s w).walk ≡ through_of d s w
  unfolding through_of checked_state checked_first
  through_behind w k = rw ((called_kept d s w k).so, k.so) (ap (λ o. handed o []) (walked_behind w))

  pub through_later : (n : ℕ) (w : Walk) → Kept d s w → through_of d s (after (called d s) n w) ≡ through_of d s w
  unfolding after
  through_later zero w k = refl
  through_later (suc n) w k = through_later n (called d s w).walk (called_kept d s w k) ∙ through_behind w k
