-- What stands behind the kind byte of a main or slow frame: the raw numbers, as 32-bit patterns (document 01, "Predictors").
-- A function of the encodings and of the bytes from there on: no predictor, no header number and no history has a part in it.
use Rattle.std.specs.Prelude.{ℕ, List, Option, Some, None}
use Rattle.reader.specs.Got.{Reader, ◌>>=◌, give, fault}
use Rattle.reader.specs.Place.{padded}
use Rattle.decode.specs.Variable.{encoding0, encoding1}
use Rattle.raws.specs.declared.Raw.{Raw}
use Rattle.raws.specs.Groups.{patterned, numbers}

-- 62 rooms, 0 behind the last field
unfoldable pub raw : (iteration time : ℕ) → (fields : List ℕ) → Raw
raw i t vs = record { iteration = i; time = t; fields = padded 62 vs }

-- Intra: iteration and time in encoding 1, then the fields.
unfoldable pub timed : List ℕ → (iteration : ℕ) → Reader Raw
timed es i = do
  t ← encoding1
  vs ← numbers es
  give (raw i t vs)

unfoldable pub intra_raw : List ℕ → Reader Raw
intra_raw es = do
  i ← encoding1
  timed es i

-- Inter: no bytes for the iteration; the time's offset in encoding 0; then the fields.
unfoldable pub inter_raw : List ℕ → Reader Raw
inter_raw es = do
  t ← patterned encoding0
  vs ← numbers es
  give (raw 0 t vs)

-- Slow: the fields alone. Without slow lists an S trial is corrupt at once.
unfoldable pub slow_raw : Option (List ℕ) → Reader Raw
slow_raw None = fault
slow_raw (Some es) = do
  vs ← numbers es
  give (raw 0 0 vs)
