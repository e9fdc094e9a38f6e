-- Texts as a case writes them: `\n`, `\r`, `\\` and `\xHH` stand for a byte each, every other byte for itself.
use Rattle.std.specs.Prelude.{ℕ, cond, List, [], ◌∷◌, eqb, Option, Some, None}
use Rattle.words.specs.Words.{hex_of}
use Rattle.words.specs.Written.{in_front, dashed}

-- `n`, `r` or `\` behind a `\`
unfoldable pub letter_of : ℕ → Option ℕ
letter_of b = cond (eqb b 110) (Some 10) (cond (eqb b 114) (Some 13) (cond (eqb b 92) (Some 92) None))

unfoldable mutual
  -- the bytes that a text writes, or none where it is not written rightly
  pub bytes_of : List ℕ → Option (List ℕ)
  bytes_of [] = Some []
  bytes_of (b ∷ s) = cond (eqb b 92) (escaped s) (in_front (Some b) (bytes_of s))

  -- behind `\`
  pub escaped : List ℕ → Option (List ℕ)
  escaped [] = None
  escaped (b ∷ s) = cond (eqb b 120) (hexed s) (in_front (letter_of b) (bytes_of s))

  -- behind `\x`
  pub hexed : List ℕ → Option (List ℕ)
  hexed [] = None
  hexed (high ∷ []) = None
  hexed (high ∷ low ∷ s) = in_front (hex_of high low) (bytes_of s)

-- a text that stands as a word
abbrev pub word_of : List ℕ → Option (List ℕ)
word_of text = dashed bytes_of text
