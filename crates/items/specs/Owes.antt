-- What each public function of this crate owes.
use Rattle.std.specs.Prelude.{ℕ, Bool, List, Option, ◌≡◌}
use Rattle.items.specs.declared.Of.{Of}
use Rattle.items.specs.declared.Row.{Row}
use Rattle.items.specs.declared.Stretch.{Stretch}
use Rattle.items.specs.Items.{items, item_at, absent, given, part}
use Rattle.items.specs.Rows.{row_of}

abbrev pub ReadRowOwes : List ℕ → Of → Row → Type 0
ReadRowOwes text of r = r ≡ row_of of (items text)

abbrev pub ItemAtOwes : List ℕ → ℕ → Option Stretch → Type 0
ItemAtOwes text k r = r ≡ item_at text k

abbrev pub IsAbsentOwes : Option Stretch → Bool → Type 0
IsAbsentOwes s r = r ≡ absent s

abbrev pub IsGivenOwes : List ℕ → Option Stretch → Bool → Type 0
IsGivenOwes text s r = r ≡ given text s

abbrev pub PartOwes : List ℕ → Option Stretch → List ℕ → Type 0
PartOwes text s r = r ≡ part text s
