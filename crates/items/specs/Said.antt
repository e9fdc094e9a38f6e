-- What a single item says (document 01, "Definition lists").
use Rattle.std.specs.Prelude.{ℕ, ◌+◌, ◌/◌, ◌%◌, Bool, cond, ◌&&◌, ◌||◌, List, [], ◌∷◌, Option, Some, None, eqb, ltb, leb}
use Rattle.std.specs.Option.{is_none, unwrap_or}
use Rattle.plan.specs.Known.{predictors, encodings}
use Rattle.items.specs.Text.{ascii, same}

-- the decimal text of a number below 100
abbrev pub decimal : ℕ → List ℕ
decimal n = cond (ltb n 10) ((48 + n) ∷ []) ((48 + n / 10) ∷ (48 + n % 10) ∷ [])

-- which of these numbers an item is the decimal text of; nothing is trimmed
unfoldable pub number_among : List ℕ → List ℕ → Option ℕ
number_among [] item = None
number_among (n ∷ ns) item = cond (same item (decimal n)) (Some n) (number_among ns item)

-- predictors: decimal text `0` to `11`
unfoldable pub predictor_of : List ℕ → Option ℕ
predictor_of item = number_among predictors item

-- encodings: 0, 1, 3, 6, 7, 8, 9
unfoldable pub encoding_of : List ℕ → Option ℕ
encoding_of item = number_among encodings item

-- an item that is none of them
abbrev pub unknown : Option ℕ → Bool
unknown o = is_none o

-- as a definition's byte: the number itself; 255 stands for an unknown item
abbrev pub numbered : Option ℕ → ℕ
numbered o = unwrap_or o 255

-- bytes 9 to 13 and 32
unfoldable pub blank : ℕ → Bool
blank b = eqb b 32 || (leb 9 b && leb b 13)

unfoldable pub trim_start : List ℕ → List ℕ
trim_start [] = []
trim_start (b ∷ t) = cond (blank b) (trim_start t) (b ∷ t)

-- a byte in front of a text that is trimmed at its end
abbrev pub kept : ℕ → List ℕ → List ℕ
kept b [] = cond (blank b) [] (b ∷ [])
kept b (c ∷ t) = b ∷ c ∷ t

unfoldable pub trim_end : List ℕ → List ℕ
trim_end [] = []
trim_end (b ∷ t) = kept b (trim_end t)

-- a sign item is unsigned only if, trimmed, it is `0`
unfoldable pub unsigned : List ℕ → Bool
unsigned item = same (trim_end (trim_start item)) (ascii "0")

-- as a definition's byte: 0 for unsigned, 1 for signed
unfoldable pub sign_code : List ℕ → ℕ
sign_code item = cond (unsigned item) 0 1
