-- What each predictor says of a field, and the value that a raw number and a prediction make (document 01, "Predictors").
use Rattle.std.specs.Prelude.{ℕ, suc, ◌+◌, ◌/◌, Bool, cond, ℤ, pos, negsuc, ◌+ℤ◌, ◌-ℤ◌, ◌*ℤ◌, neg_ℤ, ◌==◌, Option, Some, None}
use Rattle.bits.specs.Pattern.{wrap, pattern}
use Rattle.predictor.specs.declared.Surroundings.{Surroundings}
use Rattle.predictor.specs.Sign.{value_of, fits}

-- last or 0
unfoldable pub or_zero : Option ℕ → ℕ
or_zero None = 0
or_zero (Some v) = v

-- a value of a history, as the encoding reads it
unfoldable pub meaning : (signed : Bool) → Option ℕ → Option ℤ
meaning signed None = None
meaning signed (Some v) = Some (value_of signed v)

-- predictors 2 and 3: without older, last; without last, 0
unfoldable pub from_both : (ℤ → ℤ → ℤ) → (last older : Option ℤ) → ℤ
from_both both None older = pos 0
from_both both (Some l) None = l
from_both both (Some l) (Some o) = both l o

-- Predictor 2: 2·last − older; if that does not fit the type, or is negative for unsigned, last.
unfoldable pub straight : (fit : ℤ → Bool) → (last older : ℤ) → ℤ
straight fit l o = cond (fit (pos 2 *ℤ l -ℤ o)) (pos 2 *ℤ l -ℤ o) l

-- half of an integer, towards zero; where it is not negative that is downwards
unfoldable pub half : ℤ → ℤ
half (pos n) = pos (n / 2)
half (negsuc n) = neg_ℤ (pos (suc n / 2))

-- Predictor 3: the mean, signed towards zero, unsigned downwards.
unfoldable pub mean : (last older : ℤ) → ℤ
mean l o = half (l +ℤ o)

-- a header number; a definition whose predictors need one that is absent is refused, so that no walk uses the 0
unfoldable pub number_of : Option ℕ → ℕ
number_of None = 0
number_of (Some v) = v

-- The prediction for a field, as a 32-bit pattern: `motor` is the frame's own earlier `motor[0]`.
-- 7 has no home here; a number that is no predictor is refused with the definition, and gives 0.
unfoldable pub prediction : (signed : Bool) → Surroundings → (last older : Option ℕ) → (motor : ℕ) → (predictor : ℕ) → ℕ
prediction signed around last older motor p =
    cond (p == 0) 0
    (cond (p == 1) (or_zero last)
    (cond (p == 2) (pattern (from_both (straight (fits signed)) (meaning signed last) (meaning signed older)))
    (cond (p == 3) (pattern (from_both mean (meaning signed last) (meaning signed older)))
    (cond (p == 4) (number_of around.numbers.min_throttle)
    (cond (p == 5) motor
    (cond (p == 6) (wrap (around.skipped + 1 + or_zero last))
    (cond (p == 7) 0
    (cond (p == 8) 1500
    (cond (p == 9) (number_of around.numbers.vbat_reference)
    (cond (p == 10) 0
    (cond (p == 11) (number_of around.numbers.min_motor) 0)))))))))))

-- The 32-bit raw value and the prediction are added with wrapping.
unfoldable pub applied : (raw prediction : ℕ) → ℕ
applied raw p = wrap (raw + p)

-- and the raw value of which a prediction makes a value: for a writer
unfoldable pub taken_off : (value prediction : ℕ) → ℕ
taken_off v p = pattern (pos v -ℤ pos p)
