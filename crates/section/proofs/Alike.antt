-- Two walks over any two sections, in any states: a look goes by whether the walk has ended and by the bytes from its place on, and by nothing before them.
-- And what later frames read behind an accepted main frame: that frame, and of all before it the last alone.
use mathlib.Core.Bool.{Bool, true, false, cond}
use mathlib.Core.List.{List}
use mathlib.Core.Path.{◌≡◌, refl}
use Prim.Native.Nat.{ℕ}
use lib.ListN.{length, drop}
use Rattle.plan.specs.declared.Definition.{Definition}
use Rattle.plan.specs.Plan.{shape}
use Rattle.raws.specs.declared.Raw.{Raw}
use Rattle.frame.specs.Past.{past_of, body_of}
use Rattle.history.specs.declared.History.{History}
use Rattle.history.specs.History.{past}
use Rattle.history.proofs.Past.{past_pushed}
use Rattle.extent.specs.declared.Found.TheVariants.{Intra, Inter}
use Rattle.extent.specs.declared.Look.{Look}
use Rattle.extent.specs.Extent.{look}
use Rattle.section.specs.declared.Ending.{Ending}
use Rattle.section.specs.declared.Ending.TheVariants.{Going, Done, Out, Cut}
use Rattle.section.specs.declared.Walk.{Walk}
use Rattle.section.specs.Walk.{Outcome, intra_of, inter_of, history_with, settled, over, if_going, tick}

-- ## Two looks

abbrev pub is_going : Ending → Bool
is_going Going = true
is_going Done = false
is_going Out = false
is_going (Cut k p) = false

-- what is not going has ended
pub not_going : (e : Ending) → (e ≡ Going → ⊥) → is_going e ≡ false
not_going Going h = absurd (h refl)
not_going Done h = refl
not_going Out h = refl
not_going (Cut k p) h = refl

if_cond : (e : Ending) (x y : Outcome) → if_going e x y ≡ cond (is_going e) x y
if_cond Going x y = refl
if_cond Done x y = refl
if_cond Out x y = refl
if_cond (Cut k p) x y = refl

-- a look, by the bytes from the place on
unfoldable look_at : Definition → (going : Bool) → (ahead : List ℕ) → (length : ℕ) → Walk → Outcome
look_at d going c z w = cond going (settled d (look (shape d) c) z w) (over w)

tick_at : (d : Definition) (s : List ℕ) (w : Walk) → tick d s w ≡ look_at d (is_going w.tally.ending) (drop w.tally.place s) (length s) w
unfolding tick look_at
tick_at d s w = if_cond w.tally.ending (settled d (look (shape d) (drop w.tally.place s)) (length s) w) (over w)

module _ (d : Definition) (s s' : List ℕ) (v w : Walk) (Q : Outcome → Outcome → Type 0)
    (ended : Q (over v) (over w)) (looked : (l : Look) → Q (settled d l (length s) v) (settled d l (length s') w)) where
  at_both : (going : Bool) (c : List ℕ) → Q (look_at d going c (length s) v) (look_at d going c (length s') w)
  unfolding look_at
  at_both true c = looked (look (shape d) c)
  at_both false c = ended

  -- what holds where both have ended, and where both look at one and the same, holds of two looks with the same bytes ahead
  pub looks_alike : is_going v.tally.ending ≡ is_going w.tally.ending
      → drop v.tally.place s ≡ drop w.tally.place s' → Q (tick d s v) (tick d s' w)
  looks_alike going ahead = rw (tick_at d s v, tick_at d s' w, going, ahead) (at_both (is_going w.tally.ending) (drop w.tally.place s'))

-- ## What later frames read

pub intra_past : (d : Definition) (x : Raw) (h : History) → past (history_with d Intra x h) ≡ past_of (body_of (intra_of d x h)) (past h).last
unfolding history_with
intra_past d x h = past_pushed h (intra_of d x h)

pub inter_past : (d : Definition) (x : Raw) (h : History) → past (history_with d Inter x h) ≡ past_of (body_of (inter_of d x h)) (past h).last
unfolding history_with
inter_past d x h = past_pushed h (inter_of d x h)
