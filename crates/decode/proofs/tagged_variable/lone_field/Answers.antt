-- `decode::tagged_variable::lone_field` meets its contract. Assumes nothing.
use Prim.Native.Nat.{ℕ}
use mathlib.Core.List.{[], ◌∷◌}
use mathlib.Core.Path.{ap, ◌∙◌}
use Rattle.reader.proofs.Reading.{group_ok, group_err, handed_on}
use Rattle.decode.specs.Whole.{whole}
use Rattle.decode.proofs.Made.{alone_of}
use Rattle.decode.proofs.tagged_variable.lone_field.Goals as goal

pub returns-in_err-v : goal.returns-in_err-v
returns-in_err-v c = ap whole (handed_on c.from_residual.ensures.1) ∙ rw alone_of (group_err _ _ _ c.in_err-v.ensures)

pub returns : goal.returns
returns c = rw alone_of (group_ok (λ (v : ℕ). v ∷ []) _ _ c.in_ok-v.ensures)
