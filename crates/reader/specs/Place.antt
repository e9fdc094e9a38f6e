-- Places of a section, and what the code answers there.
use Rattle.std.specs.Prelude.{ℕ, ◌+◌, List, [], ◌∷◌, drop, replicate, Option, Some, None, Result, Ok, Err}
use Rattle.std.proofs.lemmas.List.Edits.{sets}
use Rattle.reader.specs.declared.Cursor.{Cursor}
use Rattle.reader.specs.declared.Fault.{Fault}
use Rattle.reader.specs.declared.Fault.TheVariants.{Cut, Corrupt}
use Rattle.reader.specs.declared.Group.{Group}
use Rattle.reader.specs.declared.RestorePoint.{RestorePoint}
use Rattle.reader.specs.Got.{Spent, one, Got, got, cut, corrupt}

-- the bytes from a place on: none where the place lies beyond the section
abbrev pub rest : Cursor → List ℕ → List ℕ
rest c s = drop c.at s

-- the place behind what was spent
abbrev pub on : Cursor → Spent → Cursor
on c u = record { at = c.at + u.bytes }

-- a byte at a place, and the place behind it
unfoldable pub byte_at : Cursor → List ℕ → Option (ℕ × Cursor)
byte_at c [] = None
byte_at c (b ∷ t) = Some (b, on c one)

-- a reading at a place: the value and the place behind it, or why there is none
unfoldable pub read_at : {A : Type 0} → Cursor → Got A → Result (A × Cursor) Fault
read_at c (got a u) = Ok (a, on c u)
read_at c cut = Err Cut
read_at c corrupt = Err Corrupt

-- n zeros, with a list laid over them from the first on; no list laid here is longer, so nothing is lost
abbrev pub padded : ℕ → List ℕ → List ℕ
padded n vs = sets (replicate n 0) 0 vs

-- no values: why reading stopped
abbrev pub no_values : Result Cursor Fault → Group
no_values t = record { step = t; values = padded 8 [] }

-- a reading of a group at a place: its values in eight rooms, and zeros where there is none
unfoldable pub group_at : Cursor → Got (List ℕ) → Group
group_at c (got vs u) = record { step = Ok (on c u); values = padded 8 vs }
group_at c cut = no_values (Err Cut)
group_at c corrupt = no_values (Err Corrupt)

-- the point to go back to, and the place that it leads back to
abbrev pub point_of : Cursor → RestorePoint
point_of c = record { 0 = c.at }

abbrev pub place_of : RestorePoint → Cursor
place_of p = record { at = p.0 }
