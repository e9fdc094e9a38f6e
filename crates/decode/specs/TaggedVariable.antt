-- Encoding 6: a group of up to eight numbers behind a head (document 01, "Numbers in a section").
use Rattle.std.specs.Prelude.{ℕ, zero, suc, ◌/◌, ◌%◌, ◌^◌, cond, List, [], ◌∷◌, ltb, leb, eqb, ℤ, pos}
use Rattle.reader.specs.Got.{Reader, ◌>>=◌, give, fault, byte}
use Rattle.decode.specs.Variable.{encoding0}

-- bit set: the field follows in encoding 0; clear: it is 0
unfoldable pub marked : ℕ → Reader ℤ
marked zero = give (pos 0)
marked (suc k) = encoding0

-- n fields; bit i of the head is for field i
unfoldable pub fields : ℕ → ℕ → Reader (List ℤ)
fields zero head = give []
fields (suc n) head = do
  v ← marked (head % 2)
  vs ← fields n (head / 2)
  give (v ∷ vs)

-- a set bit beyond the group is corrupt, seen at the head
unfoldable pub headed : ℕ → Reader (List ℤ)
headed n = do
  head ← byte
  cond (ltb head (2 ^ n)) (fields n head) fault

-- a group of one has no head
unfoldable pub alone : Reader (List ℤ)
alone = do
  v ← encoding0
  give (v ∷ [])

-- Encoding 6, a group of n fields, one to eight. Any other size is corrupt, whatever the bytes (docs/DECISIONS.md).
unfoldable pub encoding6 : ℕ → Reader (List ℤ)
encoding6 n =
    cond (eqb n 0) fault
    (cond (eqb n 1) alone
    (cond (leb n 8) (headed n) fault))
