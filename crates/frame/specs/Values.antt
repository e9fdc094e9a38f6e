-- The values of a frame's fields, in field order: each is its raw number and its prediction (document 01, "Predictors").
use Rattle.std.specs.Prelude.{ℕ, List, [], ◌∷◌, ◌++◌, length, take, slice_index, Option, option_map}
use Rattle.predictor.specs.declared.Surroundings.{Surroundings}
use Rattle.predictor.specs.Predictors.{prediction, applied}
use Rattle.predictor.specs.Sign.{is_signed}

-- what the fields of one kind of frame go by: `motor` is the place of `motor[0]` among them, or their number where it is none of them
pub record Fields : Type 0 where
  pub predictors : List ℕ
  pub encodings : List ℕ
  pub motor : ℕ
  pub around : Surroundings

-- field i of an earlier frame
unfoldable pub nth : ℕ → Option (List ℕ) → Option ℕ
nth i values = option_map (λ vs. slice_index vs i) values

module _ (f : Fields) (last older : Option (List ℕ)) where
  -- the prediction for the field behind the frame's own values so far: signed by its encoding, with its own two histories
  unfoldable pub prediction_at : (own : List ℕ) → (i : ℕ) → ℕ
  prediction_at own i =
      prediction (is_signed (slice_index f.encodings i)) f.around (nth i last) (nth i older) (slice_index own f.motor) (slice_index f.predictors i)

  unfoldable pub values_behind : (own raws : List ℕ) → List ℕ
  values_behind own [] = own
  values_behind own (x ∷ xs) = values_behind (own ++ (applied x (prediction_at own (length own)) ∷ [])) xs

-- the values of all fields, from their raw numbers
unfoldable pub values_of : Fields → (last older : Option (List ℕ)) → (raws : List ℕ) → List ℕ
values_of f last older raws = values_behind f last older [] (take (length f.predictors) raws)
