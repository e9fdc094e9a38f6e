-- The byte at a place of a section.
use Prim.Native.Nat.{ℕ, ◌<◌, ◌≤◌}
use mathlib.Core.List.{List}
use mathlib.Core.Path.{◌≡◌}
use lib.ListN.{length, get_or, drop_of_length-le}
use lib.Seq.{drop-cons}
use Rattle.std.specs.Prelude.{Some, None}
use Rattle.reader.specs.declared.Cursor.{Cursor}
use Rattle.reader.specs.Got.{one}
use Rattle.reader.specs.Place.{rest, on, byte_at}

module _ (s : List ℕ) (c : Cursor) where
  pub byte_here : c.at < length s → Some (get_or s c.at 0, on c one) ≡ byte_at c (rest c s)
  unfolding byte_at
  byte_here h = rw (drop-cons s c.at 0 h)

  pub byte_end : length s ≤ c.at → None ≡ byte_at c (rest c s)
  unfolding byte_at
  byte_end h = rw (drop_of_length-le s h)
