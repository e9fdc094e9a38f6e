-- Encoding 8: four numbers behind a head of four codes, packed in half bytes (document 01, "Numbers in a section"). A short group reads all four
-- too; whoever asked drops the rest.
use Rattle.std.specs.Prelude.{ℕ, ◌+◌, ◌*◌, ◌/◌, ◌%◌, ◌^◌, List, [], ◌∷◌, length, take, drop, ℤ}
use Rattle.bits.specs.Pattern.{signed}
use Rattle.reader.specs.Got.{Reader, ◌>>=◌, give, byte, bytes}
use Rattle.tagged.specs.Choose.{pairs, choose}

-- the half bytes of a code: 0 is zero, 1 four bits, 2 eight, 3 sixteen
unfoldable pub width : ℕ → ℕ
width code = choose code 0 1 2 4

-- the half bytes of all codes
unfoldable pub widths : List ℕ → ℕ
widths [] = 0
widths (code ∷ codes) = width code + widths codes

-- bytes as half bytes, the high one first
unfoldable pub halves : List ℕ → List ℕ
halves [] = []
halves (b ∷ bs) = b / 16 ∷ b % 16 ∷ halves bs

-- half bytes as a number, the first one highest
unfoldable pub big : List ℕ → ℕ
big [] = 0
big (x ∷ xs) = x * 16 ^ length xs + big xs

-- a value for each code, packed one behind the other; signed, as those of encoding 7 are (docs/DECISIONS.md). No half bytes make 0.
unfoldable pub unpacked : List ℕ → List ℕ → List ℤ
unpacked [] hs = []
unpacked (code ∷ codes) hs = signed (4 * width code) (big (take (width code) hs)) ∷ unpacked codes (drop (width code) hs)

-- Encoding 8: a head of four pairs, lowest first; whole bytes follow, and a last half byte is dropped, not checked.
unfoldable pub encoding8 : Reader (List ℤ)
encoding8 = do
  head ← byte
  bs ← bytes ((widths (pairs 4 head) + 1) / 2)
  give (unpacked (pairs 4 head) (halves bs))
