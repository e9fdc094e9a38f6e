-- The header numbers of a case: three words, each a number up to 65535 or `-` for none.
use Rattle.std.specs.Prelude.{ℕ, Bool, false, cond, List, [], ◌∷◌, eqb, Option, Some, None, option_map}
use Rattle.digits.specs.Digits.{decimal_of}
use Rattle.plan.specs.declared.Numbers.{Numbers}
use Rattle.words.specs.Words.{up_to, three_of}

unfoldable pub is_dash : List ℕ → Bool
is_dash [] = false
is_dash (b ∷ []) = eqb b 45
is_dash (b ∷ c ∷ s) = false

unfoldable pub given_of : List ℕ → Option (Option ℕ)
given_of s = cond (is_dash s) (Some None) (option_map Some (up_to 65535 (decimal_of s)))

unfoldable pub numbers_of : List ℕ → Option Numbers
numbers_of s = three_of given_of (λ t b m. record { min_throttle = t; vbat_reference = b; min_motor = m }) s
