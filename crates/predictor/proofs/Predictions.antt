-- A value of a history and its pattern; and what predictors 2 and 3 say of the histories that there are.
use Rattle.std.proofs.Common.{◌≡◌, ℕ, ◌^◌, ◌<◌, Bool, true, false, ℤ, Option, Some, None, refl}
use Rattle.bits.specs.Pattern.{wrap, pattern}
use Rattle.bits.proofs.Laws.{wrap_id, pattern_meant}
use Rattle.predictor.specs.Predictors.{meaning, from_both}
use Rattle.predictor.specs.Sign.{value_of}

-- a pattern is the pattern of its value, signed or not
pub pattern_value : (signed : Bool) (v : ℕ) → v < 2 ^ 32 → pattern (value_of signed v) ≡ v
unfolding value_of pattern
pattern_value true v h = pattern_meant v h
pattern_value false v h = wrap_id v h

module _ (both : ℤ → ℤ → ℤ) (signed : Bool) where
  pub no_last : (older : Option ℤ) → pattern (from_both both (meaning signed None) older) ≡ 0
  unfolding meaning from_both pattern wrap
  no_last older = refl

  pub no_older : (l : ℕ) → l < 2 ^ 32 → pattern (from_both both (meaning signed (Some l)) (meaning signed None)) ≡ l
  unfolding meaning from_both
  no_older l h = pattern_value signed l h

  pub both_there : (l o : ℕ) → from_both both (meaning signed (Some l)) (meaning signed (Some o)) ≡ both (value_of signed l) (value_of signed o)
  unfolding meaning from_both
  both_there l o = refl

pub ruleset histories = (no_last, no_older, both_there)
