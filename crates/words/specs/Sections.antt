-- The bytes of a section as a case writes them.
use Rattle.std.specs.Prelude.{ℕ, List, [], ◌∷◌, Option, Some, None}
use Rattle.words.specs.Words.{hex_of}
use Rattle.words.specs.Written.{in_front, dashed, put_of}

-- the bytes that pairs of hexadecimal digits write, or none where there is anything else
unfoldable pub pairs : List ℕ → Option (List ℕ)
pairs [] = Some []
pairs (high ∷ []) = None
pairs (high ∷ low ∷ s) = in_front (hex_of high low) (pairs s)

-- the answer, with the buffer: the bytes of a section that fits go to it, and any other text leaves it as it is
abbrev pub section_of : (text out : List ℕ) → Option ℕ × List ℕ
section_of text out = put_of (dashed pairs text) out
