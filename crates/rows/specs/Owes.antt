-- What each public function of this crate owes.
use Rattle.std.specs.Prelude.{ℕ, List, Result, ◌≡◌}
use Rattle.plan.specs.declared.Definition.{Definition}
use Rattle.section.specs.declared.Walk.{Walk}
use Rattle.section.specs.Answers.{found, refusal_for}
use Rattle.section.specs.Refusals.{Check}
use Rattle.rows.specs.declared.Laid.{Laid}
use Rattle.rows.specs.declared.Unlaid.{Unlaid}
use Rattle.rows.specs.Rows.{row_length, told, next_rows}

abbrev pub RowLengthOwes : Definition → ℕ → Type 0
RowLengthOwes d r = r ≡ row_length d

abbrev pub CheckOwes : Definition → Walk → (length room : ℕ) → Check → Type 0
CheckOwes d w z room r = found r ≡ refusal_for (row_length d) d w z room

-- the next rows of a walk, and a buffer before and after them
abbrev pub NextOwes : Definition → Walk → List ℕ → (out : List ℕ) → Result Laid Unlaid → (after : List ℕ) → Type 0
NextOwes d w s out r after = told r after ≡ next_rows d s w out
