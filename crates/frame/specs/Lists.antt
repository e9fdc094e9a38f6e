-- Fields read at a place by lists of their own, that belong to no definition (document 01, "Module order": `read_field_values`).
use Rattle.std.specs.Prelude.{ℕ, Bool, cond, List, Option, Some, None, Result, Err}
use Rattle.std.specs.Result.{result_map_both}
use Rattle.plan.specs.Sound.{sound_fields}
use Rattle.raws.specs.Groups.{numbers}
use Rattle.reader.specs.declared.Cursor.{Cursor}
use Rattle.reader.specs.declared.Fault.{Fault}
use Rattle.reader.specs.declared.Fault.TheVariants as fault
use Rattle.reader.specs.Got.{Got, Reader, over}
use Rattle.reader.specs.Place.{rest, read_at, padded}
use Rattle.frame.specs.declared.fields.Context.{Context}
use Rattle.frame.specs.declared.fields.FieldValues.{FieldValues}
use Rattle.frame.specs.declared.fields.Unread.{Unread}
use Rattle.frame.specs.declared.fields.Unread.TheVariants.{Cut, Corrupt, Unsound}
use Rattle.frame.specs.Frames.{values_in}
use Rattle.frame.specs.Past.{body_of}
use Rattle.frame.specs.Values.{Fields, values_of}

-- raw numbers and the values that they make, each in 62 rooms, 0 behind the last field
abbrev pub field_values : (raws values : List ℕ) → FieldValues
field_values raws values = record { raws = padded 62 raws; values = padded 62 values }

-- the raw numbers by the encodings; then the values, by the predictors and the two histories
unfoldable pub fields_read : Fields → (last older : Option (List ℕ)) → Reader FieldValues
fields_read f last older c = over (λ raws. field_values raws (values_of f last older raws)) (numbers f.encodings c)

-- what the fields go by: their lists, and their surroundings
abbrev pub fields_in : (encodings predictors : List ℕ) → Context → Fields
fields_in es ps x = record { predictors = ps; encodings = es; motor = x.motor; around = x.around }

abbrev pub last_in : Context → Option (List ℕ)
last_in x = values_in (body_of x.last)

abbrev pub older_in : Context → Option (List ℕ)
older_in x = values_in (body_of x.older)

-- why there are no fields
abbrev pub unread : Fault → Unread
unread fault.Cut = Cut
unread fault.Corrupt = Corrupt

-- fields read at a place
abbrev pub fields_at : Cursor → Got FieldValues → Result (FieldValues × Cursor) Unread
fields_at c g = result_map_both (λ x. x) unread (read_at c g)

-- whether the fields are such as a walk goes by: the count, the predictors, the encodings and the needs (document 01, refusals 3, 8 and 10)
abbrev pub sound_in : (n : ℕ) → (encodings predictors : List ℕ) → Context → Bool
sound_in n es ps x = sound_fields 62 x.around.numbers x.motor n ps es

-- what is not so is refused: by 10, at place 0
abbrev pub refusal_of : Unread → Option (ℕ × ℕ)
refusal_of Cut = None
refusal_of Corrupt = None
refusal_of Unsound = Some (10, 0)

-- fields by their lists, n of each
unfoldable pub by_lists : (n : ℕ) → (encodings predictors : List ℕ) → Context → (section : List ℕ) → Cursor → Result (FieldValues × Cursor) Unread
by_lists n es ps x s from =
    cond (sound_in n es ps x) (fields_at from (fields_read (fields_in es ps x) (last_in x) (older_in x) (rest from s))) (Err Unsound)
