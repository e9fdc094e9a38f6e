-- What each public function of this crate owes.
use Rattle.std.specs.Prelude.{◌≡◌, ℕ, Bool, pos}
use Rattle.predictor.specs.declared.Before.{Before}
use Rattle.predictor.specs.declared.Surroundings.{Surroundings}
use Rattle.predictor.specs.Predictors.{straight, prediction, applied}
use Rattle.predictor.specs.Sign.{is_signed, up_to}

abbrev pub IsSignedOwes : ℕ → Bool → Type 0
IsSignedOwes e r = r ≡ is_signed e

-- 2·last − older up to a top, or last
abbrev pub StraightLineOwes : ℕ → ℕ → ℕ → ℕ → Type 0
StraightLineOwes top l o r = pos r ≡ straight (up_to top) (pos l) (pos o)

abbrev pub PredictOwes : ℕ → Bool → Surroundings → Before → ℕ → ℕ → Type 0
PredictOwes p signed around before motor r = r ≡ prediction signed around before.last before.older motor p

abbrev pub ApplyOwes : ℕ → ℕ → Bool → Surroundings → Before → ℕ → ℕ → Type 0
ApplyOwes p raw signed around before motor r = r ≡ applied raw (prediction signed around before.last before.older motor p)
