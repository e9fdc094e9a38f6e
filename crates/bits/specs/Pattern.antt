-- Patterns of bits and the integers that they stand for. A 32-bit pattern is a number below 2 ^ 32; the code carries every number of a section as one.
use Rattle.std.specs.Prelude.{ℕ, ◌-◌, ◌*◌, ◌^◌, ◌%◌, ◌<◌, cond, ltb, ℤ, pos, negsuc, ◌-ℤ◌}

-- patterns wrap at 2 ^ 32
unfoldable pub wrap : ℕ → ℕ
wrap n = n % 2 ^ 32

-- the pattern of an integer: its 32 lowest bits, so that -1 is 2 ^ 32 - 1 (`negsuc n` is -n-1)
unfoldable pub pattern : ℤ → ℕ
pattern (pos n) = wrap n
pattern (negsuc n) = 2 ^ 32 - 1 - wrap n

-- a number below k, as a signed one: the upper half stands k lower
unfoldable pub lowered : ℕ → ℕ → ℤ
lowered k v = cond (ltb (2 * v) k) (pos v) (pos v -ℤ pos k)

-- a number of `bits` bits, as a signed one
unfoldable pub signed : ℕ → ℕ → ℤ
signed bits v = lowered (2 ^ bits) v

-- what a 32-bit pattern means as a signed number
unfoldable pub meant : ℕ → ℤ
meant v = signed 32 v

-- the integers that a 32-bit pattern can mean: from -2 ^ 31 on, and below 2 ^ 31
abbrev pub Fits32 : ℤ → Type 0
Fits32 (pos n) = n < 2 ^ 31
Fits32 (negsuc n) = n < 2 ^ 31
