-- `walking::check_values` meets its contract: a needed length is four times that of the check, and no more than 62 values are needed. Assumes nothing.
use mathlib.Core.Path.{refl}
use Rattle.std.proofs.Common.{arith}
use Rattle.section.proofs.Checks.{check_is}
use Rattle.dulimasca.specs.Told.{in_bytes, needed_by}
use Rattle.dulimasca.proofs.Needing.{values_named, same_in_bytes}
use Rattle.dulimasca.proofs.walking.check_values.Goals as goal

pub overflow_mul-result : goal.overflow_mul-result
unfolding needed_by
overflow_mul-result c =
    let owes = rw c.in-Err-TooShort.field-0-is at c.in-Err-TooShort.ensures in
    omega (arith, values_named _ _ _ _ (check_is _ _ _ _ owes) refl)

pub returns-in-Ok : goal.returns-in-Ok
unfolding in_bytes
returns-in-Ok c = same_in_bytes _ _ _ c.start.ensures _ c.in-Ok.ensures

pub returns-in-Err-Unsound : goal.returns-in-Err-Unsound
unfolding in_bytes
returns-in-Err-Unsound c = same_in_bytes _ _ _ c.start.ensures _ (rw c.in-Err-Unsound.field-0-is at c.in-Err-Unsound.ensures)

pub returns-in-Err-TooShort : goal.returns-in-Err-TooShort
unfolding in_bytes
returns-in-Err-TooShort c = same_in_bytes _ _ _ c.start.ensures _ (rw c.in-Err-TooShort.field-0-is at c.in-Err-TooShort.ensures)
