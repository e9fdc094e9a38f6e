-- Encoding 7: three signed numbers behind a head whose top two bits choose their size (document 01, "Numbers in a section").
-- A short group reads all three too; whoever asked drops the rest.
use Rattle.std.specs.Prelude.{ℕ, ◌+◌, ◌*◌, ◌/◌, ◌%◌, List, [], ◌∷◌, ℤ}
use Rattle.bits.specs.Pattern.{signed}
use Rattle.reader.specs.Got.{Reader, ◌>>=◌, give, byte, bytes}
use Rattle.tagged.specs.Choose.{choose}

abbrev pub three : ℤ → ℤ → ℤ → List ℤ
three x y z = x ∷ y ∷ z ∷ []

-- 0: three 2-bit values in the head, high first
unfoldable pub two_bits : ℕ → Reader (List ℤ)
two_bits head = give (three (signed 2 (head / 16 % 4)) (signed 2 (head / 4 % 4)) (signed 2 (head % 4)))

-- 1: the head's low four bits, then a byte's high and low half
unfoldable pub four_bits : ℕ → Reader (List ℤ)
four_bits head = do
  b ← byte
  give (three (signed 4 (head % 16)) (signed 4 (b / 16)) (signed 4 (b % 16)))

-- 2: the low six bits of the head and of two bytes
unfoldable pub six_bits : ℕ → Reader (List ℤ)
six_bits head = do
  b ← byte
  d ← byte
  give (three (signed 6 (head % 64)) (signed 6 (b % 64)) (signed 6 (d % 64)))

-- bytes as a number, little end first
unfoldable pub little : List ℕ → ℕ
little [] = 0
little (b ∷ bs) = b + 256 * little bs

-- n bytes, little end first, as a signed number
unfoldable pub signed_bytes : ℕ → Reader ℤ
signed_bytes n = do
  bs ← bytes n
  give (signed (8 * n) (little bs))

-- 3: the head's low six bits, lowest pair first, give 1 to 4 bytes for each value
unfoldable pub whole_bytes : ℕ → Reader (List ℤ)
whole_bytes head = do
  x ← signed_bytes (1 + head % 4)
  y ← signed_bytes (1 + head / 4 % 4)
  z ← signed_bytes (1 + head / 16 % 4)
  give (three x y z)

-- Encoding 7.
unfoldable pub encoding7 : Reader (List ℤ)
encoding7 = do
  head ← byte
  choose (head / 64) (two_bits head) (four_bits head) (six_bits head) (whole_bytes head)
