-- What the public function of this crate owes. What `step`, the inside of whole walks, owes stands in Steps.antt.
use Rattle.std.specs.Prelude.{ℕ, List, ◌≡◌, length}
use Rattle.plan.specs.declared.Definition.{Definition}
use Rattle.section.specs.declared.Looked.{Looked}
use Rattle.section.specs.declared.Walk.{Walk}
use Rattle.section.specs.Answers.{told, checked_first}
use Rattle.section.specs.Refusals.{checked}
use Rattle.calls.specs.Call.{called}

-- one call over a section, and a buffer before and after it
abbrev pub CallOwes : Definition → Walk → List ℕ → (out : List ℕ) → Looked → (after : List ℕ) → Type 0
CallOwes d w s out r after = told r after ≡ checked_first (checked d w (length s) (length out)) (called d s w) w out
