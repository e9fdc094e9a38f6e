-- What each public function of this crate owes.
use Rattle.std.specs.Prelude.{ℕ, List, ◌≡◌, take, Result}
use Rattle.frame.specs.declared.fields.Context.{Context}
use Rattle.frame.specs.declared.fields.FieldValues.{FieldValues}
use Rattle.frame.specs.declared.fields.Unread.{Unread}
use Rattle.reader.specs.declared.Cursor.{Cursor}
use Rattle.records.specs.declared.FieldDef.{FieldDef}
use Rattle.records.specs.Records.{by_records}

abbrev pub ReadFieldValuesOwes : (section : List ℕ) → Cursor → List FieldDef → Context → Result (FieldValues × Cursor) Unread → Type 0
ReadFieldValuesOwes s from fields x r = r ≡ by_records fields x s from

-- the first n of 63
abbrev pub ReadRecordsOwes : (section : List ℕ) → Cursor → (n : ℕ) → List FieldDef → Context → Result (FieldValues × Cursor) Unread → Type 0
ReadRecordsOwes s from n records x r = r ≡ by_records (take n records) x s from
