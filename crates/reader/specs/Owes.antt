-- What each public function of this crate owes.
use Rattle.std.specs.Prelude.{ℕ, List, ◌≡◌, Option, Result}
use Rattle.reader.specs.declared.Cursor.{Cursor}
use Rattle.reader.specs.declared.Fault.{Fault}
use Rattle.reader.specs.declared.Group.{Group}
use Rattle.reader.specs.declared.Kind.{Kind}
use Rattle.reader.specs.declared.RestorePoint.{RestorePoint}
use Rattle.reader.specs.Place.{rest, point_of, place_of, byte_at, no_values}
use Rattle.reader.specs.Search.{letter_of, ahead}

abbrev pub GetRestorePointOwes : Cursor → RestorePoint → Type 0
GetRestorePointOwes c r = r ≡ point_of c

abbrev pub RestoreOwes : RestorePoint → Cursor → Type 0
RestoreOwes p r = r ≡ place_of p

abbrev pub StoppedOwes : Result Cursor Fault → Group → Type 0
StoppedOwes step r = r ≡ no_values step

abbrev pub ReadU8Owes : List ℕ → Cursor → Option (ℕ × Cursor) → Type 0
ReadU8Owes s from r = r ≡ byte_at from (rest from s)

abbrev pub FromByteOwes : ℕ → Option Kind → Type 0
FromByteOwes b r = r ≡ letter_of b

-- from the point on, the byte there included
abbrev pub SkipToFrameOwes : List ℕ → RestorePoint → Option ℕ → Type 0
SkipToFrameOwes s from r = r ≡ ahead (rest (place_of from) s)
