-- One input admits one answer: any two answers that a promise of this crate admits are equal.
use Prim.Native.Nat.{ℕ}
use mathlib.Core.List.{List}
use mathlib.Core.Path.{◌≡◌, sym, ◌∙◌}
use Rattle.std.specs.Prelude.{Option, Result}
use Rattle.reader.specs.declared.Cursor.{Cursor}
use Rattle.reader.specs.declared.Fault.{Fault}
use Rattle.reader.specs.declared.Group.{Group}
use Rattle.reader.specs.declared.Kind.{Kind}
use Rattle.reader.specs.declared.RestorePoint.{RestorePoint}
use Rattle.reader.specs.Owes.{GetRestorePointOwes, RestoreOwes, StoppedOwes, ReadU8Owes, FromByteOwes, SkipToFrameOwes}

-- a promise is one equation to a definition
pub one_answer : {A : Type 0} {x r t : A} → r ≡ x → t ≡ x → r ≡ t
one_answer p q = p ∙ sym q

pub get_restore_point_one : (c : Cursor) {r t : RestorePoint} → GetRestorePointOwes c r → GetRestorePointOwes c t → r ≡ t
get_restore_point_one c = one_answer

pub restore_one : (p : RestorePoint) {r t : Cursor} → RestoreOwes p r → RestoreOwes p t → r ≡ t
restore_one p = one_answer

pub stopped_one : (step : Result Cursor Fault) {r t : Group} → StoppedOwes step r → StoppedOwes step t → r ≡ t
stopped_one step = one_answer

pub read_u8_one : (s : List ℕ) (from : Cursor) {r t : Option (ℕ × Cursor)} → ReadU8Owes s from r → ReadU8Owes s from t → r ≡ t
read_u8_one s from = one_answer

pub from_byte_one : (b : ℕ) {r t : Option Kind} → FromByteOwes b r → FromByteOwes b t → r ≡ t
from_byte_one b = one_answer

pub skip_to_frame_one : (s : List ℕ) (from : RestorePoint) {r t : Option ℕ} → SkipToFrameOwes s from r → SkipToFrameOwes s from t → r ≡ t
skip_to_frame_one s from = one_answer
