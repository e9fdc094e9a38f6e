-- One input admits one answer: any two answers that a promise of this crate admits are equal.
use Rattle.std.proofs.Common.{◌≡◌, ℕ, Bool, pos, sym, ◌∙◌}
use Rattle.predictor.specs.declared.Before.{Before}
use Rattle.predictor.specs.declared.Surroundings.{Surroundings}
use Rattle.predictor.specs.Owes.{IsSignedOwes, StraightLineOwes, PredictOwes, ApplyOwes}

pub is_signed_one : (e : ℕ) {r t : Bool} → IsSignedOwes e r → IsSignedOwes e t → r ≡ t
is_signed_one e f g = f ∙ sym g

-- no two natural numbers are one integer
pub straight_line_one : (top l o : ℕ) {r t : ℕ} → StraightLineOwes top l o r → StraightLineOwes top l o t → r ≡ t
straight_line_one top l o {r} {t} f g = let same : pos r ≡ pos t = f ∙ sym g in cc

pub predict_one : (p : ℕ) (signed : Bool) (around : Surroundings) (before : Before) (motor : ℕ) {r t : ℕ}
    → PredictOwes p signed around before motor r → PredictOwes p signed around before motor t → r ≡ t
predict_one p signed around before motor f g = f ∙ sym g

pub apply_one : (p raw : ℕ) (signed : Bool) (around : Surroundings) (before : Before) (motor : ℕ) {r t : ℕ}
    → ApplyOwes p raw signed around before motor r → ApplyOwes p raw signed around before motor t → r ≡ t
apply_one p raw signed around before motor f g = f ∙ sym g
