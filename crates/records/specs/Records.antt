-- Fields by their records: as by the lists of their encodings and predictors (document 01, "walks a slice of field records; keep one thin entry").
use Rattle.std.specs.Prelude.{ℕ, List, map, length, Result}
use Rattle.frame.specs.declared.fields.Context.{Context}
use Rattle.frame.specs.declared.fields.FieldValues.{FieldValues}
use Rattle.frame.specs.declared.fields.Unread.{Unread}
use Rattle.frame.specs.Lists.{by_lists}
use Rattle.reader.specs.declared.Cursor.{Cursor}
use Rattle.records.specs.declared.FieldDef.{FieldDef}

abbrev pub encodings_of : List FieldDef → List ℕ
encodings_of fields = map (λ f. f.encoding) fields

abbrev pub predictors_of : List FieldDef → List ℕ
predictors_of fields = map (λ f. f.predictor) fields

-- what 10 refuses of lists of fields is refused of their records
unfoldable pub by_records : List FieldDef → Context → (section : List ℕ) → Cursor → Result (FieldValues × Cursor) Unread
by_records fields x s from = by_lists (length fields) (encodings_of fields) (predictors_of fields) x s from
