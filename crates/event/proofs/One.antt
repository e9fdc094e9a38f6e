-- One input admits one answer: any two answers that a promise of this crate admits are equal.
use Prim.Native.Nat.{ℕ}
use mathlib.Core.List.{List}
use mathlib.Core.Path.{◌≡◌}
use Rattle.std.specs.Prelude.{Result}
use Rattle.reader.specs.declared.Cursor.{Cursor}
use Rattle.reader.specs.declared.Fault.{Fault}
use Rattle.reader.proofs.One.{one_answer}
use Rattle.event.specs.declared.Event.{Event}
use Rattle.event.specs.Owes.{ReadOwes}

pub read_one : (s : List ℕ) (from : Cursor) {r t : Result (Event × Cursor) Fault} → ReadOwes s from r → ReadOwes s from t → r ≡ t
read_one s from = one_answer
