-- What each public function of this crate owes.
use Rattle.std.specs.Prelude.{ℕ, List, Option, ◌≡◌}
use Rattle.items.specs.declared.Stretch.{Stretch}
use Rattle.header.specs.declared.Header.{Header}
use Rattle.header.specs.Header.{value_of, header_of}

abbrev pub ValueOwes : (text prefix : List ℕ) → Option Stretch → Type 0
ValueOwes text prefix r = r ≡ value_of text prefix

abbrev pub ReadOwes : List ℕ → Header → Type 0
ReadOwes text r = r ≡ header_of text
