-- One input admits one answer: any two answers that a promise of this crate admits are equal, and so are the buffers behind them.
use Prim.Native.Nat.{ℕ}
use Rattle.std.specs.Prelude.{Result}
use mathlib.Core.List.{List}
use mathlib.Core.Path.{◌≡◌, ap}
use Rattle.plan.specs.declared.Definition.{Definition}
use Rattle.reader.proofs.One.{one_answer}
use Rattle.section.specs.declared.Walk.{Walk}
use Rattle.section.specs.Refusals.{Check}
use Rattle.section.proofs.Paper.{found_injective}
use Rattle.rows.specs.declared.Laid.{Laid}
use Rattle.rows.specs.declared.Unlaid.{Unlaid}
use Rattle.rows.specs.Owes.{RowLengthOwes, CheckOwes, NextOwes}
use Rattle.rows.specs.Rows.{Told, told}

pub row_length_one : (d : Definition) {r t : ℕ} → RowLengthOwes d r → RowLengthOwes d t → r ≡ t
row_length_one d = one_answer

pub check_one : (d : Definition) (w : Walk) (z room : ℕ) {r t : Check} → CheckOwes d w z room r → CheckOwes d w z room t → r ≡ t
check_one d w z room {r} {t} p q = found_injective r t (one_answer p q)

pub next_one : (d : Definition) (w : Walk) (s out : List ℕ) (r t : Result Laid Unlaid) (a b : List ℕ) → NextOwes d w s out r a → NextOwes d w s out t b
    → (r ≡ t) × (a ≡ b)
next_one d w s out r t a b p q = let e : told r a ≡ told t b = one_answer p q in (ap (λ (x : Told). x.given) e, ap (λ (x : Told). x.out) e)
