-- One input admits one answer: any two answers that a promise of this crate admits are equal.
use Prim.Native.Nat.{ℕ}
use Rattle.std.specs.Prelude.{Result}
use mathlib.Core.List.{List}
use mathlib.Core.Path.{◌≡◌}
use Rattle.frame.specs.declared.fields.Context.{Context}
use Rattle.frame.specs.declared.fields.FieldValues.{FieldValues}
use Rattle.frame.specs.declared.fields.Unread.{Unread}
use Rattle.reader.specs.declared.Cursor.{Cursor}
use Rattle.reader.proofs.One.{one_answer}
use Rattle.records.specs.declared.FieldDef.{FieldDef}
use Rattle.records.specs.Owes.{ReadFieldValuesOwes, ReadRecordsOwes}

pub read_field_values_one : (s : List ℕ) (from : Cursor) (fields : List FieldDef) (x : Context) {r t : Result (FieldValues × Cursor) Unread}
    → ReadFieldValuesOwes s from fields x r → ReadFieldValuesOwes s from fields x t → r ≡ t
read_field_values_one s from fields x = one_answer

pub read_records_one : (s : List ℕ) (from : Cursor) (n : ℕ) (records : List FieldDef) (x : Context) {r t : Result (FieldValues × Cursor) Unread}
    → ReadRecordsOwes s from n records x r → ReadRecordsOwes s from n records x t → r ≡ t
read_records_one s from n records x = one_answer
