-- One input admits one answer: any two answers that a promise of this crate admits are equal.
use Prim.Native.Nat.{ℕ}
use mathlib.Core.Bool.{Bool}
use mathlib.Core.List.{List}
use mathlib.Core.Path.{◌≡◌}
use Rattle.std.specs.Prelude.{Option}
use Rattle.plan.proofs.One.{one_answer}
use Rattle.items.specs.declared.Of.{Of}
use Rattle.items.specs.declared.Row.{Row}
use Rattle.items.specs.declared.Stretch.{Stretch}
use Rattle.items.specs.Owes.{ReadRowOwes, ItemAtOwes, IsAbsentOwes, IsGivenOwes, PartOwes}

pub read_row_one : (text : List ℕ) (of : Of) {r t : Row} → ReadRowOwes text of r → ReadRowOwes text of t → r ≡ t
read_row_one text of = one_answer

pub item_at_one : (text : List ℕ) (k : ℕ) {r t : Option Stretch} → ItemAtOwes text k r → ItemAtOwes text k t → r ≡ t
item_at_one text k = one_answer

pub is_absent_one : (s : Option Stretch) {r t : Bool} → IsAbsentOwes s r → IsAbsentOwes s t → r ≡ t
is_absent_one s = one_answer

pub is_given_one : (text : List ℕ) (s : Option Stretch) {r t : Bool} → IsGivenOwes text s r → IsGivenOwes text s t → r ≡ t
is_given_one text s = one_answer

pub part_one : (text : List ℕ) (s : Option Stretch) {r t : List ℕ} → PartOwes text s r → PartOwes text s t → r ≡ t
part_one text s = one_answer
