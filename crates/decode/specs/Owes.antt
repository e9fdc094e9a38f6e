-- What each public function of this crate owes for a section and a place. Numbers leave as 32-bit patterns.
use Rattle.std.specs.Prelude.{ℕ, List, map, ◌≡◌, Result}
use Rattle.bits.specs.Pattern.{pattern}
use Rattle.reader.specs.declared.Cursor.{Cursor}
use Rattle.reader.specs.declared.Group.{Group}
use Rattle.reader.specs.declared.Fault.{Fault}
use Rattle.reader.specs.Got.{over}
use Rattle.reader.specs.Place.{rest, read_at, group_at}
use Rattle.decode.specs.Variable.{encoding0, encoding1, encoding3, encoding9}
use Rattle.decode.specs.TaggedVariable.{encoding6}

abbrev pub VariableOwes : List ℕ → Cursor → Result (ℕ × Cursor) Fault → Type 0
VariableOwes s from r = r ≡ read_at from (encoding1 (rest from s))

abbrev pub VariableSignedOwes : List ℕ → Cursor → Result (ℕ × Cursor) Fault → Type 0
VariableSignedOwes s from r = r ≡ read_at from (over pattern (encoding0 (rest from s)))

abbrev pub Negative14BitOwes : List ℕ → Cursor → Result (ℕ × Cursor) Fault → Type 0
Negative14BitOwes s from r = r ≡ read_at from (over pattern (encoding3 (rest from s)))

-- whatever the section holds
abbrev pub NullOwes : Cursor → Result (ℕ × Cursor) Fault → Type 0
NullOwes from r = (s : List ℕ) → r ≡ read_at from (encoding9 (rest from s))

abbrev pub TaggedVariableOwes : List ℕ → Cursor → ℕ → Group → Type 0
TaggedVariableOwes s from n r = r ≡ group_at from (over (map pattern) (encoding6 n (rest from s)))
