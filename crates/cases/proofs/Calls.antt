-- Every worked call is what it says, by computation: a promise's other side computes to what the case says.
use Prim.Native.Nat.{ℕ}
use mathlib.Core.List.{List}
use mathlib.Core.Path.{◌≡◌}
use Rattle.section.specs.declared.Looked.{Looked}
use Rattle.section.specs.Answers.{Told, told}
use Rattle.cases.specs.Walks.{Hold, calls}
use Rattle.cases.proofs.Row.{◌&◌}
use Rattle.cases.proofs.Unfolded.{whole_open}

-- what an answer owes is what it tells
abbrev pub owed : {t : Told} (r : Looked) (after : List ℕ) → told r after ≡ t → told r after ≡ t
owed r after owes = owes

pub calls_worked : Hold calls
unfolding calls whole_open
calls_worked =
    owed & owed & owed & owed & owed & owed & owed & owed & owed & owed & owed & owed & owed & owed
    & owed & owed & owed & owed & owed & owed & owed & owed & owed & owed & owed & owed & owed & owed & tt
