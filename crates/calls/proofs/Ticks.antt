-- The looks of a call: one that is not over goes on by a byte or more, and one behind the section's last byte is over.
-- So a look in vain leaves the call as it is, and a look that says something is the call.
use Prim.Native.Nat.{ℕ, ◌-◌, ◌<◌, ◌≤◌}
use mathlib.Core.Bool.{Bool, true, false, true≢false, false≢true, not-eq-not}
use mathlib.Core.List.{List}
use mathlib.Core.Path.{◌≡◌, refl, sym, ◌∙◌}
use native.Mathlib.Omega.{arith}
use lib.Dec.{ltb}
use lib.ListN.{length, drop}
use borrow.Author.Tests.{ltb-true, ltb-false}
use Rattle.plan.specs.declared.Definition.{Definition}
use Rattle.plan.specs.Plan.{shape}
use Rattle.raws.specs.declared.Raw.{Raw}
use Rattle.history.specs.declared.History.{History}
use Rattle.extent.specs.declared.Look.{Look}
use Rattle.extent.specs.declared.Seen.{Seen}
use Rattle.extent.specs.declared.Seen.TheVariants.{Nothing, Passed, Rejected, Cutoff, Accepted}
use Rattle.extent.specs.Extent.{look}
use Rattle.extent.proofs.Reach.{look_nothing}
use Rattle.section.specs.declared.Answer.{Answer}
use Rattle.section.specs.declared.Answer.TheVariants as answer
use Rattle.section.specs.declared.Ending.{Ending}
use Rattle.section.specs.declared.Ending.TheVariants.{Going, Done, Out, Cut}
use Rattle.section.specs.declared.Walk.{Walk}
use Rattle.section.specs.Tally.{place_after, tally_after}
use Rattle.section.specs.Walk.{Outcome, answer_after, settled, over, if_going, tick}
use Rattle.section.proofs.Stays.{after_place}
use Rattle.section.specs.Answers.{is_over}
use Rattle.calls.specs.Call.{says, is_said, called}
use Rattle.calls.proofs.Until.{Moves, Ends, until_last, until_on}

-- ## Answers

pub over_says : (a : Answer) → is_over a ≡ true → says a ≡ true
unfolding says is_over
over_says answer.Passed e = absurd (false≢true e)
over_says (answer.Rejected k p) e = absurd (false≢true e)
over_says (answer.Event x) e = refl
over_says (answer.Intra x) e = refl
over_says (answer.Inter x) e = refl
over_says (answer.Slow x) e = refl
over_says (answer.Over x) e = refl
over_says (answer.Refused x) e = refl

vain_not_over : (a : Answer) → says a ≡ false → is_over a ≡ false
vain_not_over a e = (not-eq-not {a = is_over a} {b = false}).0 (λ o. true≢false (sym (over_says a o) ∙ e))

pub over_is_over : (w : Walk) → is_over (over w).answer ≡ true
unfolding over is_over
over_is_over w = refl

-- ## A look

by_ending : (P : Outcome → Type 0) (e : Ending) {x y : Outcome} → P x → P y → P (if_going e x y)
by_ending P Going p q = p
by_ending P Done p q = q
by_ending P Out p q = q
by_ending P (Cut k n) p q = q

seen_moves : (d : Definition) (x : Seen) (z p : ℕ) (raw : Raw) (h : History) → is_over (answer_after d x p raw h) ≡ false → p < place_after x z p
unfolding answer_after is_over place_after
seen_moves d Nothing z p raw h e = absurd (true≢false e)
seen_moves d (Passed s) z p raw h e = omega arith
seen_moves d (Rejected k s) z p raw h e = omega arith
seen_moves d (Cutoff k) z p raw h e = absurd (true≢false e)
seen_moves d (Accepted f m) z p raw h e = omega arith

settled_moves : (d : Definition) (l : Look) (z : ℕ) (w : Walk) → is_over (settled d l z w).answer ≡ false
    → w.tally.place < (settled d l z w).walk.tally.place
unfolding settled tally_after
settled_moves d l z w = seen_moves d l.seen z w.tally.place l.raw w.history

module _ (d : Definition) (s : List ℕ) (w : Walk) where
  pub look_moves : is_over (tick d s w).answer ≡ false → w.tally.place < (tick d s w).walk.tally.place
  unfolding tick
  look_moves =
      by_ending (λ o. is_over o.answer ≡ false → w.tally.place < o.walk.tally.place) w.tally.ending
      (settled_moves d (look (shape d) (drop w.tally.place s)) (length s) w) (λ e. absurd (true≢false (rw over_is_over at e)))

  grows : (t : Bool) → ltb w.tally.place (length s) ≡ t
      → w.tally.place ≤ (tally_after (look (shape d) (drop w.tally.place s)).seen (length s) w.tally).place
  unfolding tally_after place_after
  grows true e = after_place (look (shape d) (drop w.tally.place s)).seen (length s) w.tally (omega (arith, ltb-true w.tally.place (length s) e))
  grows false e = rw (look_nothing (shape d) s w.tally.place (ltb-false w.tally.place (length s) e)) (omega arith)

  -- no look goes back, from any place
  pub look_place : w.tally.place ≤ (tick d s w).walk.tally.place
  unfolding tick settled over
  look_place = by_ending (λ o. w.tally.place ≤ o.walk.tally.place) w.tally.ending (grows (ltb w.tally.place (length s)) refl) (omega arith)

  pub look_end : length s ≤ w.tally.place → is_over (tick d s w).answer ≡ true
  unfolding tick settled answer_after is_over
  look_end h = by_ending (λ o. is_over o.answer ≡ true) w.tally.ending (rw (look_nothing (shape d) s w.tally.place h)) (over_is_over w)

-- ## A call

module _ (d : Definition) (s : List ℕ) where
  pub tick_moves : Moves (tick d s) is_said
  tick_moves w e = look_moves d s w (vain_not_over (tick d s w).answer e)

  pub tick_end : Ends (tick d s) is_said (length s)
  tick_end w h = over_says (tick d s w).answer (look_end d s w h)

  pub call_vain : (w : Walk) → says (tick d s w).answer ≡ false → called d s w ≡ called d s (tick d s w).walk
  unfolding called
  call_vain = until_on (tick d s) is_said (length s) tick_moves tick_end

  pub call_says : (w : Walk) → says (tick d s w).answer ≡ true → called d s w ≡ tick d s w
  unfolding called
  call_says w = until_last (tick d s) is_said (length s - w.tally.place) w
