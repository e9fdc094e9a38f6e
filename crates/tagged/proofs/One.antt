-- One input admits one answer: any two answers that a promise of this crate admits are equal.
use Prim.Native.Nat.{ℕ}
use mathlib.Core.List.{List}
use mathlib.Core.Path.{◌≡◌}
use Rattle.reader.specs.declared.Cursor.{Cursor}
use Rattle.reader.specs.declared.Group.{Group}
use Rattle.reader.proofs.One.{one_answer}
use Rattle.tagged.specs.Owes.{Tagged32Owes, Tagged16Owes}

module _ (s : List ℕ) (from : Cursor) where
  pub tagged_32_one : {r t : Group} → Tagged32Owes s from r → Tagged32Owes s from t → r ≡ t
  tagged_32_one = one_answer

  pub tagged_16_one : {r t : Group} → Tagged16Owes s from r → Tagged16Owes s from t → r ≡ t
  tagged_16_one = one_answer
