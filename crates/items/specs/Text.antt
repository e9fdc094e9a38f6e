-- Texts as bytes, and whether two are the same.
use Prim.Native.Char.{code}
use Rattle.std.specs.Prelude.{ℕ, Bool, List, [], ◌∷◌}
use Rattle.std.specs.Str.{bytes_eq}
use Prim.Native.String.{String, [] as []ˢ, ◌∷◌ as ◌∷ˢ◌}

-- the bytes of a quoted text; every one here is ASCII, a byte to a character
abbrev pub ascii : String → List ℕ
ascii []ˢ = []
ascii (c ∷ˢ s) = code c ∷ ascii s

-- the same bytes
unfoldable pub same : List ℕ → List ℕ → Bool
same s t = bytes_eq s t
