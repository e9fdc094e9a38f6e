-- Steps until one is the last. Where a step that is not the last goes on by a byte or more, and a step at the end is the last, any number of steps is enough
-- that is at least the bytes left. A call goes by looks in this way, and a whole walk by calls.
use Prim.Native.Nat.{ℕ, zero, suc, ◌-◌, ◌<◌, ◌≤◌}
use mathlib.Core.Bool.{Bool, true, false, cond}
use mathlib.Core.Path.{◌≡◌, refl, ◌∙◌}
use native.Mathlib.Omega.{arith}
use Rattle.bits.proofs.Laws.{by_test}
use Rattle.section.specs.declared.Walk.{Walk}
use Rattle.section.specs.Walk.{Outcome}
use Rattle.calls.specs.Call.{after, until}

-- a step that is not the last goes on
abbrev pub Moves : (Walk → Outcome) → (Outcome → Bool) → Type 0
Moves step last = (w : Walk) → last (step w) ≡ false → w.tally.place < (step w).walk.tally.place

-- a step at the end of so many bytes is the last
abbrev pub Ends : (Walk → Outcome) → (Outcome → Bool) → (size : ℕ) → Type 0
Ends step last size = (w : Walk) → size ≤ w.tally.place → last (step w) ≡ true

-- tests that agree where they go on
cond_on : {A : Type 0} (t : Bool) (a : A) {b c : A} → (t ≡ false → b ≡ c) → cond t a b ≡ cond t a c
cond_on true a h = refl
cond_on false a h = h refl

-- n steps
module _ (step : Walk → Outcome) where
  pub after_suc : (n : ℕ) (w : Walk) → after step (suc n) w ≡ (step (after step n w)).walk
  unfolding after
  after_suc zero w = refl
  after_suc (suc n) w = after_suc n (step w).walk

  -- keep what every step keeps
  pub after_keeps : (P : Walk → Type 0) → ((w : Walk) → P w → P (step w).walk) → (n : ℕ) (w : Walk) → P w → P (after step n w)
  unfolding after
  after_keeps P keeps zero w p = p
  after_keeps P keeps (suc n) w p = after_keeps P keeps n (step w).walk (keeps w p)

module _ (step : Walk → Outcome) (last : Outcome → Bool) where
  pub until_last : (n : ℕ) (w : Walk) → last (step w) ≡ true → until step last n w ≡ step w
  unfolding until
  until_last zero w e = refl
  until_last (suc n) w e = rw e

  -- what every step keeps, steps until the last keep
  pub until_keeps : (P : Walk → Type 0) → ((w : Walk) → P w → P (step w).walk) → (n : ℕ) (w : Walk) → P w → P (until step last n w).walk
  unfolding until
  until_keeps P keeps zero w p = keeps w p
  until_keeps P keeps (suc n) w p =
      by_test (λ (o : Outcome). P o.walk) (last (step w)) (λ _. keeps w p) (λ _. until_keeps P keeps n (step w).walk (keeps w p))

  module _ (size : ℕ) (moves : Moves step last) (ends : Ends step last size) where
    pub until_enough : (n m : ℕ) (w : Walk) → size - w.tally.place ≤ n → size - w.tally.place ≤ m → until step last n w ≡ until step last m w
    unfolding until
    until_enough zero zero w h k = refl
    until_enough zero (suc m) w h k = rw (ends w (omega arith))
    until_enough (suc n) zero w h k = rw (ends w (omega arith))
    until_enough (suc n) (suc m) w h k =
        cond_on (last (step w)) (step w)
        (λ e. let far : w.tally.place < (step w).walk.tally.place = moves w e in until_enough n m (step w).walk (omega arith) (omega arith))

    abbrev rest : Walk → Outcome
    rest w = until step last (size - w.tally.place) w

    pub until_on : (w : Walk) → last (step w) ≡ false → rest w ≡ rest (step w).walk
    unfolding until
    until_on w e =
        until_enough (size - w.tally.place) (suc size) w (omega arith) (omega arith)
        ∙ rw e (until_enough size (size - (step w).walk.tally.place) (step w).walk (omega arith) (omega arith))

    -- what holds of a walk before a step and behind one that is not the last (P), and what the last then gives (Q)
    module _ (P : Walk → Type 0) (Q : Outcome → Type 0)
        (on : (w : Walk) → P w → last (step w) ≡ false → P (step w).walk) (at_last : (w : Walk) → P w → last (step w) ≡ true → Q (step w)) where
      by_steps : (n : ℕ) (w : Walk) → size - w.tally.place ≤ n → P w → Q (until step last n w)
      unfolding until
      by_steps zero w h p = at_last w p (ends w (omega arith))
      by_steps (suc n) w h p =
          by_test Q (last (step w)) (at_last w p)
          (λ e. let far : w.tally.place < (step w).walk.tally.place = moves w e in by_steps n (step w).walk (omega arith) (on w p e))

      pub until_by : (w : Walk) → P w → Q (rest w)
      until_by w = by_steps (size - w.tally.place) w (omega arith)

    pub until_is_last : (w : Walk) → last (rest w) ≡ true
    until_is_last w = until_by (λ _. Unit) (λ o. last o ≡ true) (λ w p e. tt) (λ w p e. e) w tt
