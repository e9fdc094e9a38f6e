-- The value of a raw number and a prediction, and back: neither loses anything, and 32 bits hold all of it.
use Rattle.std.proofs.Common.{Option, ◌≡◌, ℕ, zero, suc, ◌+◌, ◌^◌, ◌<◌, Bool, true, false, cond, eqb, pos, ◌-ℤ◌, neg_ℤ, sym, ap, ◌∙◌, arith}
use lib.IntN.{ -ℤ-+ℤ_cancel}
use Rattle.bits.specs.Pattern.{wrap, pattern}
use Rattle.bits.proofs.Laws.{by_test, wrap_id, pattern_below, pattern_add}
use Rattle.predictor.specs.declared.Surroundings.{Surroundings}
use Rattle.predictor.specs.Predictors.{or_zero, number_of, prediction, applied, taken_off}

pub applied_below : (r p : ℕ) → applied r p < 2 ^ 32
unfolding applied wrap
applied_below r p = omega arith

pub off_below : (v p : ℕ) → taken_off v p < 2 ^ 32
unfolding taken_off
off_below v p = pattern_below (pos v -ℤ pos p)

-- a prediction taken off and put on again
pub off_on : (v p : ℕ) → v < 2 ^ 32 → applied (taken_off v p) p ≡ v
unfolding applied taken_off pattern wrap
off_on v p h = wraps (pattern (pos v -ℤ pos p)) ∙ sym (pattern_add (pos v -ℤ pos p) (pos p)) ∙ ap pattern (-ℤ-+ℤ_cancel (pos v) (pos p)) ∙ wrap_id v h
  where
    wraps : (n : ℕ) → wrap (n + p) ≡ wrap (n + wrap p)
    wraps n = omega arith

-- and put on and taken off again
pub on_off : (r p : ℕ) → r < 2 ^ 32 → taken_off (applied r p) p ≡ r
unfolding applied taken_off pattern wrap
on_off r p h = pattern_add (pos (wrap (r + p))) (neg_ℤ (pos p)) ∙ back p
  where
    back : (p : ℕ) → wrap (pattern (pos (wrap (r + p))) + pattern (neg_ℤ (pos p))) ≡ r
    back zero = omega arith
    back (suc p) = omega arith

-- What is handed in has 32 bits, so the prediction has. Predictors 2, 3 and 6 wrap.
pub prediction_below : (signed : Bool) (around : Surroundings) (last older : Option ℕ) (motor p : ℕ) → or_zero last < 2 ^ 32 → motor < 2 ^ 32
    → number_of around.numbers.min_throttle < 2 ^ 16 → number_of around.numbers.vbat_reference < 2 ^ 16
    → number_of around.numbers.min_motor < 2 ^ 16 → prediction signed around last older motor p < 2 ^ 32
unfolding prediction wrap
prediction_below signed around last older motor p hl hm throttle battery least =
    below (eqb p 0) (λ _. omega arith) λ _.
    below (eqb p 1) (λ _. hl) λ _.
    below (eqb p 2) (λ _. pattern_below _) λ _.
    below (eqb p 3) (λ _. pattern_below _) λ _.
    below (eqb p 4) (λ _. omega arith) λ _.
    below (eqb p 5) (λ _. hm) λ _.
    below (eqb p 6) (λ _. omega arith) λ _.
    below (eqb p 7) (λ _. omega arith) λ _.
    below (eqb p 8) (λ _. omega arith) λ _.
    below (eqb p 9) (λ _. omega arith) λ _.
    below (eqb p 10) (λ _. omega arith) λ _.
    below (eqb p 11) (λ _. omega arith) (λ _. omega arith)
  where
    below : (t : Bool) {x y : ℕ} → (t ≡ true → x < 2 ^ 32) → (t ≡ false → y < 2 ^ 32) → cond t x y < 2 ^ 32
    below = by_test (λ r. r < 2 ^ 32)
