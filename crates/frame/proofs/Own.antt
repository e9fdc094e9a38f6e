-- A frame's own values: a prediction reads them below its field, there are as many as raw numbers, and each number keeps to its bits.
use Rattle.std.proofs.Common.{◌≡◌, ℕ, zero, suc, ◌+◌, ◌-◌, ◌^◌, ◌<◌, ◌≤◌, Bool, true, false, eqb, List, [], ◌∷◌, ◌++◌, length, Option}
use Rattle.std.proofs.Common.{get_or, take, ℤ, pos, negsuc, refl, ◌∙◌, arith, length-append, eqb-true}
use lib.ListN.{get_or-append}
use Rattle.bits.specs.Pattern.{wrap}
use Rattle.plan.specs.Plan.{Shape, Rules}
use Rattle.predictor.specs.Predictors.{applied}
use Rattle.predictor.proofs.Histories.{motor_unread}
use Rattle.predictor.proofs.Sums.{applied_below}
use Rattle.raws.specs.declared.Raw.{Raw}
use Rattle.frame.specs.Frames.{inter_frame}
use Rattle.frame.specs.Past.{Past}
use Rattle.frame.specs.Time.{top, held, iteration_after, time_after}
use Rattle.frame.specs.Values.{Fields, prediction_at, values_behind, values_of}

module _ (f : Fields) (l o : Option (List ℕ)) where
  -- The only one of them that a prediction reads is `motor[0]`, and only predictor 5 does.
  -- So where 5 finds it among them, values behind them make no difference.
  pub own_below : (own more : List ℕ) (i : ℕ) → (get_or f.predictors i 0 ≡ 5 → f.motor < length own)
      → prediction_at f l o (own ++ more) i ≡ prediction_at f l o own i
  unfolding prediction_at
  own_below own more i h = either (eqb (get_or f.predictors i 0) 5) refl
    where
      either : (t : Bool) → eqb (get_or f.predictors i 0) 5 ≡ t → prediction_at f l o (own ++ more) i ≡ prediction_at f l o own i
      either true e = rw (get_or-append own more 0 f.motor (h (eqb-true (get_or f.predictors i 0) 5 e)))
      either false e = motor_unread (get_or f.predictors i 0) e _ _ _ _ _ _

  behind_count : (own xs : List ℕ) → length (values_behind f l o own xs) ≡ length own + length xs
  unfolding values_behind
  behind_count own [] = omega arith
  behind_count own (x ∷ xs) =
      let v = applied x (prediction_at f l o own (length own)) in
      behind_count (own ++ (v ∷ [])) xs ∙ rw (length-append own (v ∷ [])) (omega arith)

  -- as many as raw numbers, of which no more count than there are fields
  pub values_count : (xs : List ℕ) → length (values_of f l o xs) ≡ length (take (length f.predictors) xs)
  unfolding values_of
  values_count xs = behind_count [] (take (length f.predictors) xs) ∙ omega arith

-- one more value of 32 bits
one_more : (own : List ℕ) (v : ℕ) → v < 2 ^ 32 → ((j : ℕ) → get_or own j 0 < 2 ^ 32) → (j : ℕ) → get_or (own ++ (v ∷ [])) j 0 < 2 ^ 32
one_more [] v h each zero = h
one_more [] v h each (suc j) = omega arith
one_more (w ∷ own) v h each zero = each 0
one_more (w ∷ own) v h each (suc j) = one_more own v h (λ k. each (suc k)) j

module _ (f : Fields) (l o : Option (List ℕ)) where
  behind_below : (own xs : List ℕ) → ((j : ℕ) → get_or own j 0 < 2 ^ 32) → (j : ℕ) → get_or (values_behind f l o own xs) j 0 < 2 ^ 32
  unfolding values_behind
  behind_below own [] each = each
  behind_below own (x ∷ xs) each =
      behind_below (own ++ (applied x (prediction_at f l o own (length own)) ∷ [])) xs (one_more own _ (applied_below x _) each)

  -- every value has 32 bits, whatever the raw numbers and the past
  pub values_below : (xs : List ℕ) (j : ℕ) → get_or (values_of f l o xs) j 0 < 2 ^ 32
  unfolding values_of
  values_below xs = behind_below [] (take (length f.predictors) xs) (λ j. omega arith)

held_below : (z : ℤ) → held z ≤ 2 ^ 64 - 1
unfolding held top
held_below (pos n) = omega arith
held_below (negsuc n) = omega arith

-- the time of an inter frame has 64 bits, and its iteration 32
module _ (h : Shape) (r : Rules) (p : Past) (x : Raw) where
  pub inter_time_below : (inter_frame h r p x).time ≤ 2 ^ 64 - 1
  unfolding inter_frame time_after
  inter_time_below = held_below _

  pub inter_iteration_below : (inter_frame h r p x).iteration < 2 ^ 32
  unfolding inter_frame iteration_after wrap
  inter_iteration_below = omega arith
