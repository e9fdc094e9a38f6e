-- Encodings 1, 0, 3 and 9: a number by itself (document 01, "Numbers in a section").
use Rattle.std.specs.Prelude.{ℕ, zero, suc, ◌+◌, ◌-◌, ◌*◌, ◌/◌, ◌%◌, ◌^◌, cond, ltb, leb, eqb, ℤ, pos, negsuc, neg_ℤ}
use Rattle.bits.specs.Pattern.{signed}
use Rattle.reader.specs.Got.{Reader, ◌>>=◌, give, fault, byte}

-- Groups of seven bits, lowest first, bit 7 set if more follow; `left` more may follow, and where none may a byte over 15 is corrupt.
unfoldable pub sevens : ℕ → Reader ℕ
sevens zero = do
  b ← byte
  cond (leb b 15) (give b) fault
sevens (suc left) = do
  b ← byte
  cond (ltb b 128) (give b) (do
    v ← sevens left
    give (128 * v + (b - 128)))

-- Encoding 1: at most five bytes.
unfoldable pub encoding1 : Reader ℕ
encoding1 = sevens 4

-- even 2k is k, odd 2k + 1 is -k-1 (`negsuc k`)
unfoldable pub zigzag : ℕ → ℤ
zigzag n = cond (eqb (n % 2) 0) (pos (n / 2)) (negsuc (n / 2))

-- Encoding 0.
unfoldable pub encoding0 : Reader ℤ
encoding0 = do
  n ← encoding1
  give (zigzag n)

-- Encoding 3: the low 14 bits as a signed number, negated.
unfoldable pub encoding3 : Reader ℤ
encoding3 = do
  n ← encoding1
  give (neg_ℤ (signed 14 (n % 2 ^ 14)))

-- Encoding 9: no bytes, value 0.
unfoldable pub encoding9 : Reader ℕ
encoding9 = give 0
