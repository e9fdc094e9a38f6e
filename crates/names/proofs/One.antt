-- One input admits one answer: any two answers that a promise of this crate admits are equal.
use Prim.Native.Nat.{ℕ}
use mathlib.Core.List.{List}
use mathlib.Core.Path.{◌≡◌}
use Rattle.std.specs.Prelude.{Option}
use Rattle.items.specs.declared.Stretch.{Stretch}
use Rattle.plan.proofs.One.{one_answer}
use Rattle.plan.specs.declared.Definition.{Definition}
use Rattle.plan.specs.declared.Sort.{Sort}
use Rattle.names.specs.Owes.{NameAtOwes, FieldNameOwes}

module _ (d : Definition) (which : Sort) (main slow : List ℕ) (k : ℕ) where
  pub name_at_one : {r t : Option Stretch} → NameAtOwes d which main slow k r → NameAtOwes d which main slow k t → r ≡ t
  name_at_one = one_answer

  pub field_name_one : {r t : List ℕ} → FieldNameOwes d which main slow k r → FieldNameOwes d which main slow k t → r ≡ t
  field_name_one = one_answer
