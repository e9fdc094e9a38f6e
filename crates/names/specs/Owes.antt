-- What each public function of this crate owes.
use Rattle.std.specs.Prelude.{ℕ, List, Option, ◌≡◌}
use Rattle.items.specs.declared.Stretch.{Stretch}
use Rattle.plan.specs.declared.Definition.{Definition}
use Rattle.plan.specs.declared.Sort.{Sort}
use Rattle.names.specs.Names.{name_at, name_of}

abbrev pub NameAtOwes : Definition → Sort → (main slow : List ℕ) → ℕ → Option Stretch → Type 0
NameAtOwes d which main slow k r = r ≡ name_at d which main slow k

-- the bytes are those of the stretch that `name_at` tells
abbrev pub FieldNameOwes : Definition → Sort → (main slow : List ℕ) → ℕ → List ℕ → Type 0
FieldNameOwes d which main slow k r = r ≡ name_of d which main slow k
