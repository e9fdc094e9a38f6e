-- What each public function of this crate owes.
use Rattle.std.specs.Prelude.{ℕ, List, [], ◌≡◌}
use Rattle.plan.specs.declared.Definition.{Definition}
use Rattle.section.specs.declared.Looked.{Looked}
use Rattle.section.specs.declared.Walk.{Walk}
use Rattle.section.specs.Answers.{paper_of, told}
use Rattle.section.specs.Walk.{start}
use Rattle.walks.specs.declared.Counted.{Counted}
use Rattle.plan.specs.declared.Sort.{Sort}
use Rattle.walks.specs.Walks.{Counts, counts_of, through_of, filled_of}

abbrev pub ThroughOwes : Definition → Walk → List ℕ → Looked → Type 0
ThroughOwes d w s r = told r [] ≡ through_of d s w

abbrev pub counts : Counted → Counts
counts r = record { said = paper_of r.answer; tally = r.tally }

abbrev pub CountOwes : Definition → List ℕ → Counted → Type 0
CountOwes d s r = counts r ≡ counts_of (through_of d s start)

-- a buffer before and after it
abbrev pub FillOwes : Definition → List ℕ → Sort → (k : ℕ) → (out : List ℕ) → Looked → (after : List ℕ) → Type 0
FillOwes d s of k out r after = told r after ≡ filled_of of k d s out
