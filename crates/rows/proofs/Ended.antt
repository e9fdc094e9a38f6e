-- Behind a call that is over the walk has ended, so that every later call is over too.
use Prim.Native.Nat.{ℕ}
use mathlib.Core.Bool.{true, false, false≢true}
use mathlib.Core.List.{List}
use mathlib.Core.Path.{◌≡◌, refl, sym, ap, ◌∙◌}
use lib.ListN.{length, drop}
use Rattle.plan.specs.declared.Definition.{Definition}
use Rattle.plan.specs.Plan.{shape}
use Rattle.raws.specs.declared.Raw.{Raw}
use Rattle.history.specs.declared.History.{History}
use Rattle.extent.specs.declared.Found.{Found}
use Rattle.extent.specs.declared.Found.TheVariants.{Event, Intra, Inter, Slow}
use Rattle.extent.specs.declared.Seen.{Seen}
use Rattle.extent.specs.declared.Seen.TheVariants.{Nothing, Passed, Rejected, Cutoff, Accepted}
use Rattle.extent.specs.Extent.{look}
use Rattle.section.specs.declared.Ending.{Ending}
use Rattle.section.specs.declared.Ending.TheVariants.{Going, Done, Out, Cut}
use Rattle.section.specs.declared.Walk.{Walk}
use Rattle.section.specs.Answers.{is_over}
use Rattle.section.specs.Tally.{ending_after, tally_after}
use Rattle.section.specs.Walk.{Outcome, answer_with, answer_after, settled, over, if_going, tick}
use Rattle.section.proofs.Alike.{is_going}
use Rattle.calls.specs.Call.{is_said, called}
use Rattle.calls.proofs.Calls.{called_ended}
use Rattle.calls.proofs.Ticks.{over_is_over, tick_moves, tick_end}
use Rattle.calls.proofs.Until.{until_by}

-- a frame that is found is not over
found_goes_on : (d : Definition) (f : Found) (p : ℕ) (x : Raw) (h : History) → is_over (answer_with d f p x h) ≡ false
unfolding answer_with is_over
found_goes_on d (Event e) p x h = refl
found_goes_on d Intra p x h = refl
found_goes_on d Inter p x h = refl
found_goes_on d Slow p x h = refl

seen_ends : (d : Definition) (y : Seen) (p : ℕ) (x : Raw) (h : History) → is_over (answer_after d y p x h) ≡ true → is_going (ending_after y p) ≡ false
unfolding answer_after ending_after is_over
seen_ends d Nothing p x h e = refl
seen_ends d (Passed k) p x h e = absurd (false≢true e)
seen_ends d (Rejected j k) p x h e = absurd (false≢true e)
seen_ends d (Cutoff k) p x h e = refl
seen_ends d (Accepted f m) p x h e = absurd (false≢true (sym (found_goes_on d f p x h) ∙ e))

module _ (d : Definition) (s : List ℕ) where
  abbrev EndsIn : Outcome → Type 0
  EndsIn o = is_over o.answer ≡ true → is_going o.walk.tally.ending ≡ false

  tick_ends : (w : Walk) → EndsIn (tick d s w)
  unfolding tick settled tally_after over
  tick_ends w = by w.tally.ending refl
    where
      by : (e : Ending) → w.tally.ending ≡ e → EndsIn (if_going e (settled d (look (shape d) (drop w.tally.place s)) (length s) w) (over w))
      by Going e = seen_ends d _ w.tally.place _ w.history
      by Done e = λ h. ap is_going e
      by Out e = λ h. ap is_going e
      by (Cut k p) e = λ h. ap is_going e

  pub called_ends : (w : Walk) → is_over (called d s w).answer ≡ true → is_going (called d s w).walk.tally.ending ≡ false
  unfolding called
  called_ends w = until_by (tick d s) is_said (length s) (tick_moves d s) (tick_end d s) (λ _. Unit) EndsIn (λ v p e. tt) (λ v p e. tick_ends v) w tt

  pub over_again : (w : Walk) → is_over (called d s w).answer ≡ true → is_over (called d s (called d s w).walk).answer ≡ true
  over_again w e = let v = (called d s w).walk in ap (λ o. is_over o.answer) (called_ended d s v (called_ends w e)) ∙ over_is_over v
