-- Texts that write bytes, and what they make of a lent buffer.
use Rattle.std.specs.Prelude.{ℕ, ◌<◌, ◌≤◌, Bool, false, cond, List, [], ◌∷◌, ◌++◌, ◌≡◌, eqb, leb, length, take, drop, Option, Some, None}

-- a byte in front of others; none where anything is wrong
unfoldable pub in_front : Option ℕ → Option (List ℕ) → Option (List ℕ)
in_front None others = None
in_front (Some b) None = None
in_front (Some b) (Some bytes) = Some (b ∷ bytes)

-- a text that stands as a word, where `bytes_of` says what texts write: `-` for no bytes, and no word is empty
unfoldable pub dashed : (bytes_of : List ℕ → Option (List ℕ)) → List ℕ → Option (List ℕ)
dashed bytes_of [] = None
dashed bytes_of (b ∷ []) = cond (eqb b 45) (Some []) (bytes_of (b ∷ []))
dashed bytes_of (b ∷ c ∷ s) = bytes_of (b ∷ c ∷ s)

-- how many bytes there are
unfoldable pub counted : Option (List ℕ) → Option ℕ
counted None = None
counted (Some bytes) = Some (length bytes)

-- a buffer with bytes put in front; the rest keeps its content
unfoldable pub over : (bytes out : List ℕ) → List ℕ
over bytes out = bytes ++ drop (length bytes) out

-- the answer, with the buffer: bytes that fit go to its front, and otherwise it stays as it is
unfoldable pub put_of : Option (List ℕ) → (out : List ℕ) → Option ℕ × List ℕ
put_of None out = (None, out)
put_of (Some bytes) out = cond (leb (length bytes) (length out)) (Some (length bytes), over bytes out) (None, out)

-- bytes that fit
unfoldable pub fits : Option (List ℕ) → (out : List ℕ) → Bool
fits None out = false
fits (Some bytes) out = leb (length bytes) (length out)

-- what a text writes that begins with no byte: nothing, or it is wrong
abbrev pub stopped : List ℕ → Option (List ℕ)
stopped [] = Some []
stopped (b ∷ s) = None

-- how the code goes through a text: its first byte, and what stands behind the bytes of the text that write it
pub record Begins (bytes_of : List ℕ → Option (List ℕ)) (s : List ℕ) (b : ℕ) (rest : List ℕ) : Type 0 where
  pub is : bytes_of s ≡ in_front (Some b) (bytes_of rest)
  pub less : length rest < length s

-- n counts bytes at the start of a buffer. It follows from an answer, and is stated so that the proof that Rattle makes of `&buf[..n]` finds it.
abbrev pub Counts : ℕ → List ℕ → Type 0
Counts n buf = (n ≤ length buf) × (n ≡ length (take n buf))
