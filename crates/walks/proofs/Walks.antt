-- A whole walk goes on by calls and ends: it is the first call that is over or at the goal.
use Prim.Native.Nat.{ℕ, zero, suc, ◌≤◌, ◌<◌}
use mathlib.Core.Bool.{Bool, true, false, ◌||◌}
use mathlib.Core.List.{List, []}
use mathlib.Core.Path.{◌≡◌, refl, sym, ap, ◌∙◌}
use native.Mathlib.Omega.{arith}
use lib.ListN.{length}
use Rattle.plan.specs.declared.Definition.{Definition}
use Rattle.section.specs.declared.Walk.{Walk}
use Rattle.section.specs.Answers.{is_over, handed, checked_first}
use Rattle.section.specs.Refusals.{admitted}
use Rattle.calls.specs.Call.{after, left, called}
use Rattle.calls.proofs.Until.{Moves, Ends, until_last, until_on, until_is_last}
use Rattle.calls.proofs.Calls.{called_moves, called_end}
use Rattle.walks.specs.declared.Goal.{Goal}
use Rattle.walks.specs.declared.Goal.TheVariants.{End}
use Rattle.walks.specs.Walks.{is_reached, is_last, after_calls, walked, checked_state, through_of}

pub either_false : (a b : Bool) → (a || b) ≡ false → a ≡ false
either_false true b e = e
either_false false b e = refl

only_first : (a : Bool) → (a || false) ≡ true → a ≡ true
only_first true e = refl
only_first false e = e

module _ (goal : Goal) (d : Definition) (s : List ℕ) where
  not_over : (w : Walk) → is_last goal (called d s w) ≡ false → is_over (called d s w).answer ≡ false
  unfolding is_last
  not_over w e = either_false _ _ e

  -- a call that is not the last goes on, and one at the section's end is the last
  last_or_on : Moves (called d s) (is_last goal)
  last_or_on w e = called_moves d s w (not_over w e)

  last_at_end : Ends (called d s) (is_last goal) (length s)
  unfolding is_last
  last_at_end w h = rw (called_end d s w h)

  pub walk_last : (w : Walk) → is_last goal (called d s w) ≡ true → walked goal d s w ≡ called d s w
  unfolding walked
  walk_last w = until_last (called d s) (is_last goal) (left s w) w

  pub walk_on : (w : Walk) → is_last goal (called d s w) ≡ false → walked goal d s w ≡ walked goal d s (called d s w).walk
  unfolding walked
  walk_on w = until_on (called d s) (is_last goal) (length s) last_or_on last_at_end w

  pub walked_is_last : (w : Walk) → is_last goal (walked goal d s w) ≡ true
  unfolding walked
  walked_is_last w = until_is_last (called d s) (is_last goal) (length s) last_or_on last_at_end w

  -- it is one of the calls, the first that is over or at the goal
  module _ (w : Walk) where
    pub record First (most : ℕ) : Type 0 where
      pub n : ℕ
      pub few : n ≤ most
      pub is : walked goal d s w ≡ called d s (after_calls n d s w)
      pub before : (k : ℕ) → k < n → is_last goal (called d s (after_calls k d s w)) ≡ false

    first_here : (m : ℕ) → is_last goal (called d s w) ≡ true → First m
    unfolding after
    first_here m e = record { n = 0; few = omega arith; is = walk_last w e; before = λ k h. absurd (omega arith) }

  none_before : (w : Walk) (n : ℕ) → is_last goal (called d s w) ≡ false
      → ((k : ℕ) → k < n → is_last goal (called d s (after_calls k d s (called d s w).walk)) ≡ false)
      → (k : ℕ) → k < suc n → is_last goal (called d s (after_calls k d s w)) ≡ false
  unfolding after
  none_before w n e before zero h = e
  none_before w n e before (suc k) h = before k (omega arith)

  first_later : (m : ℕ) (w : Walk) → is_last goal (called d s w) ≡ false → First (called d s w).walk m → First w (suc m)
  unfolding after
  first_later m w e f = record { n = suc f.n; few = omega (arith, f.few); is = walk_on w e ∙ f.is; before = none_before w f.n e f.before }

  by_last : (t : Bool) (m : ℕ) (w : Walk) → is_last goal (called d s w) ≡ t → (t ≡ false → First (called d s w).walk m) → First w (suc m)
  by_last true m w e f = first_here w (suc m) e
  by_last false m w e f = first_later m w e (f refl)

  first_in : (m : ℕ) (w : Walk) → left s w ≤ m → First w m
  first_in zero w h = first_here w 0 (last_at_end w (omega arith))
  first_in (suc m) w h =
      by_last (is_last goal (called d s w)) m w refl
      (λ e. let far : w.tally.place < (called d s w).walk.tally.place = last_or_on w e in first_in m (called d s w).walk (omega arith))

  pub walk_first : (w : Walk) → First w (length s)
  walk_first w = first_in (length s) w (omega arith)

-- EVERY WALK ENDS, within one call more than the section has bytes
pub walk_ends : (d : Definition) (s : List ℕ) (w : Walk) → is_over (walked End d s w).answer ≡ true
unfolding is_last is_reached
walk_ends d s w = only_first (is_over (walked End d s w).answer) (walked_is_last End d s w)

pub ends_within : (d : Definition) (s : List ℕ) (w : Walk) → (n : ℕ) × (n ≤ length s) × (is_over (called d s (after_calls n d s w)).answer ≡ true)
ends_within d s w =
    let f = walk_first End d s w in
    (f.n, f.few, ap (λ o. is_over o.answer) (sym f.is) ∙ walk_ends d s w)

-- what `through` owes for a walk that is not refused: the first call that is over, without its fields
pub record Through (d : Definition) (s : List ℕ) (w : Walk) : Type 0 where
  pub n : ℕ
  pub tells : through_of d s w ≡ handed (called d s (after_calls n d s w)) []
  pub over : is_over (called d s (after_calls n d s w)).answer ≡ true
  pub before : (k : ℕ) → k < n → is_over (called d s (after_calls k d s w)).answer ≡ false

pub through_calls : (d : Definition) (s : List ℕ) (w : Walk) → admitted d (length s) w ≡ true → Through d s w
unfolding through_of checked_state checked_first
through_calls d s w h =
    let f = walk_first End d s w in
    record {
      n = f.n;
      tells = rw h (ap (λ o. handed o []) f.is);
      over = ap (λ o. is_over o.answer) (sym f.is) ∙ walk_ends d s w;
      before = λ k e. not_over End d s (after_calls k d s w) (f.before k e);
    }
