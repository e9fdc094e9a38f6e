-- The iteration and the time of an inter frame (document 01, "Predictors").
use Rattle.std.specs.Prelude.{ℕ, ◌+◌, ◌-◌, ◌^◌, min, cond, ℤ, pos, negsuc, ◌+ℤ◌, Option, None, Some, option_map}
use Rattle.bits.specs.Pattern.{wrap, meant}
use Rattle.plan.specs.Plan.{Rules}
use Rattle.predictor.specs.Predictors.{or_zero, from_both, straight}
use Rattle.predictor.specs.Sign.{up_to}
use Rattle.frame.specs.Past.{Body, Past}

-- how many iterations were skipped before an inter frame: with the interval 1/1 none
unfoldable pub skipped_after : Rules → Past → ℕ
skipped_after r p = 0

-- iteration is 1 + last's or 0, wrapping at 32 bits
unfoldable pub iteration_after : Rules → Past → ℕ
iteration_after r p = wrap (skipped_after r p + 1 + or_zero (option_map (λ b. b.iteration) p.last))

-- the 64-bit top
unfoldable pub top : ℕ
top = 2 ^ 64 - 1

-- held at 0 and at the top
unfoldable pub held : ℤ → ℕ
held (pos n) = min n top
held (negsuc n) = 0

-- older used only if last was inter
unfoldable pub behind_inter : (last older : Option Body) → Option Body
behind_inter None o = None
behind_inter (Some l) o = cond l.inter o None

abbrev pub time_in : Option Body → Option ℤ
time_in b = option_map (λ x. pos x.time) b

-- predictor 2 in 64 bits
abbrev pub straight_time : (last older : Option ℤ) → ℤ
straight_time last older = from_both (straight (up_to top)) last older

abbrev pub predicted_time : Past → ℤ
predicted_time p = straight_time (time_in p.last) (time_in (behind_inter p.last p.older))

-- plus the offset, a 32-bit pattern
unfoldable pub time_after : Past → (offset : ℕ) → ℕ
time_after p x = held (predicted_time p +ℤ meant x)
