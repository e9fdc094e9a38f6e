-- The lines of a log, and which of them are its header (document 01, "Sessions to reproduce").
use Rattle.std.specs.Prelude.{ℕ, ◌+◌, Bool, cond, List, [], ◌∷◌, eqb, length}
use Rattle.std.specs.List.{starts_with}
use Rattle.items.specs.Text.{ascii}

-- a byte in front of the first line
abbrev pub onto : ℕ → List (List ℕ) → List (List ℕ)
onto b [] = (b ∷ []) ∷ []
onto b (l ∷ r) = (b ∷ l) ∷ r

-- a line ends behind byte 10; the last one may lack it
unfoldable pub lines : List ℕ → List (List ℕ)
lines [] = []
lines (b ∷ t) = cond (eqb b 10) ((b ∷ []) ∷ lines t) (onto b (lines t))

-- a line without its line feed; a carriage return stays
unfoldable pub bare : List ℕ → List ℕ
bare [] = []
bare (b ∷ t) = cond (eqb b 10) [] (b ∷ bare t)

unfoldable pub begins : (prefix line : List ℕ) → Bool
begins prefix line = starts_with eqb line prefix

-- the lines before the first that does not begin with `H` and a space: the section begins behind them
unfoldable pub headers : List (List ℕ) → List (List ℕ)
headers [] = []
headers (l ∷ ls) = cond (begins (ascii "H ") (bare l)) (l ∷ headers ls) []

-- how many bytes some lines have
unfoldable pub total : List (List ℕ) → ℕ
total [] = 0
total (l ∷ ls) = length l + total ls
