-- The predictors and encodings that there are (document 01, "Definition lists").
use Rattle.std.specs.Prelude.{ℕ, Bool, false, ◌||◌, List, [], ◌∷◌, eqb}

-- predictors: 0 to 11
abbrev pub predictors : List ℕ
predictors = 0 ∷ 1 ∷ 2 ∷ 3 ∷ 4 ∷ 5 ∷ 6 ∷ 7 ∷ 8 ∷ 9 ∷ 10 ∷ 11 ∷ []

-- encodings: 0, 1, 3, 6, 7, 8, 9
abbrev pub encodings : List ℕ
encodings = 0 ∷ 1 ∷ 3 ∷ 6 ∷ 7 ∷ 8 ∷ 9 ∷ []

unfoldable pub among : List ℕ → ℕ → Bool
among [] v = false
among (n ∷ ns) v = eqb v n || among ns v
