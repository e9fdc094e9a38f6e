-- How the code goes by the fields, and by values in their rooms.
-- No part of the meaning: only contracts of private functions cite it.
use Rattle.std.specs.Prelude.{ℕ, List, Option}
use Rattle.predictor.specs.declared.Surroundings.{Surroundings}
use Rattle.reader.specs.Place.{padded}
use Rattle.frame.specs.declared.FieldLists.{FieldLists}
use Rattle.frame.specs.Values.{Fields, values_of}

abbrev pub fields_by : (predictors encodings : List ℕ) → (motor : ℕ) → Surroundings → Fields
fields_by ps es m a = record { predictors = ps; encodings = es; motor = m; around = a }

-- the same of the code's
abbrev pub fields_of : FieldLists → Fields
fields_of f = fields_by f.predictors.now f.encodings.now f.motor f.around

-- values in their 62 rooms
abbrev pub laid : Fields → (last older : Option (List ℕ)) → (raws : List ℕ) → List ℕ
laid f last older raws = padded 62 (values_of f last older raws)
