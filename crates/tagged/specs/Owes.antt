-- What each public function of this crate owes for a section and a place. Numbers leave as 32-bit patterns.
use Rattle.std.specs.Prelude.{ℕ, List, map, ◌≡◌}
use Rattle.bits.specs.Pattern.{pattern}
use Rattle.reader.specs.declared.Cursor.{Cursor}
use Rattle.reader.specs.declared.Group.{Group}
use Rattle.reader.specs.Got.{over}
use Rattle.reader.specs.Place.{rest, group_at}
use Rattle.tagged.specs.Tagged16.{encoding8}
use Rattle.tagged.specs.Tagged32.{encoding7}

abbrev pub Tagged32Owes : List ℕ → Cursor → Group → Type 0
Tagged32Owes s from r = r ≡ group_at from (over (map pattern) (encoding7 (rest from s)))

abbrev pub Tagged16Owes : List ℕ → Cursor → Group → Type 0
Tagged16Owes s from r = r ≡ group_at from (over (map pattern) (encoding8 (rest from s)))
