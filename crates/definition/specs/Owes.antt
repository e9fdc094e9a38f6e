-- What each public function of this crate owes.
use Rattle.std.specs.Prelude.{ℕ, List, ◌≡◌}
use Rattle.items.specs.declared.Lists.{Lists}
use Rattle.plan.specs.declared.Numbers.{Numbers}
use Rattle.plan.specs.declared.Settings.{Settings}
use Rattle.definition.specs.declared.Defined.{Defined}
use Rattle.definition.specs.declared.Paper.{Paper}
use Rattle.definition.specs.declared.Refusal.{Refusal}
use Rattle.definition.specs.Checks.{paper_of}
use Rattle.definition.specs.Defined.{told, defined}

abbrev pub PaperOwes : Refusal → Paper → Type 0
PaperOwes refusal r = r ≡ paper_of refusal

abbrev pub DefineOwes : List ℕ → Lists → Numbers → Settings → Defined → Type 0
DefineOwes text lists numbers settings r = told r ≡ defined text lists numbers settings
