-- How the value of a field is read: signed or unsigned by its encoding, never by the sign list (document 01, "Definition lists").
use Rattle.std.specs.Prelude.{ℕ, ◌-◌, ◌^◌, Bool, true, false, not, ◌||◌, ℤ, pos, negsuc, ◌==◌, nat_le, nat_lt}
use Rattle.bits.specs.Pattern.{meant}

-- arithmetic is signed by the encoding, where 1 and 9 are unsigned
unfoldable pub is_signed : ℕ → Bool
is_signed e = not (e == 1 || e == 9)

-- what a 32-bit pattern means
unfoldable pub value_of : (signed : Bool) → ℕ → ℤ
value_of true v = meant v
value_of false v = pos v

-- from 0 to a top
unfoldable pub up_to : ℕ → ℤ → Bool
up_to top (pos n) = nat_le n top
up_to top (negsuc n) = false

-- whether an integer fits the 32-bit type (`negsuc n` is -n-1)
unfoldable pub fits : (signed : Bool) → ℤ → Bool
fits true (pos n) = nat_lt n (2 ^ 31)
fits true (negsuc n) = nat_lt n (2 ^ 31)
fits false z = up_to (2 ^ 32 - 1) z
