-- One input admits one answer: any two answers that a promise of this crate admits are equal.
use Prim.Native.Nat.{ℕ}
use mathlib.Core.List.{List, []}
use mathlib.Core.Path.{◌≡◌}
use Rattle.std.specs.Prelude.{Result}
use Rattle.reader.specs.declared.Cursor.{Cursor}
use Rattle.reader.specs.declared.Fault.{Fault}
use Rattle.reader.specs.declared.Group.{Group}
use Rattle.reader.proofs.One.{one_answer}
use Rattle.decode.specs.Owes.{VariableOwes, VariableSignedOwes, Negative14BitOwes, NullOwes, TaggedVariableOwes}

module _ (s : List ℕ) (from : Cursor) where
  pub variable_one : {r t : Result (ℕ × Cursor) Fault} → VariableOwes s from r → VariableOwes s from t → r ≡ t
  variable_one = one_answer

  pub variable_signed_one : {r t : Result (ℕ × Cursor) Fault} → VariableSignedOwes s from r → VariableSignedOwes s from t → r ≡ t
  variable_signed_one = one_answer

  pub negative_14_bit_one : {r t : Result (ℕ × Cursor) Fault} → Negative14BitOwes s from r → Negative14BitOwes s from t → r ≡ t
  negative_14_bit_one = one_answer

  pub tagged_variable_one : (n : ℕ) {r t : Group} → TaggedVariableOwes s from n r → TaggedVariableOwes s from n t → r ≡ t
  tagged_variable_one n = one_answer

pub null_one : (from : Cursor) {r t : Result (ℕ × Cursor) Fault} → NullOwes from r → NullOwes from t → r ≡ t
null_one from p q = one_answer (p []) (q [])
