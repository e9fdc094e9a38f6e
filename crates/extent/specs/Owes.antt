-- What each public function of this crate owes.
use Rattle.std.specs.Prelude.{ℕ, List, ◌≡◌, drop}
use Rattle.plan.specs.declared.Definition.{Definition}
use Rattle.plan.specs.Plan.{shape}
use Rattle.extent.specs.declared.Glance.{Glance}
use Rattle.extent.specs.declared.Look.{Look}
use Rattle.extent.specs.Extent.{look}
use Rattle.extent.specs.Sight.{beside}

-- at a place of a section
abbrev pub SightOwes : Definition → List ℕ → (place : ℕ) → Look → Type 0
SightOwes d s place r = r ≡ look (shape d) (drop place s)

-- the same in lent rooms: the fields' numbers stand there, beside what is returned
abbrev pub SightIntoOwes : Definition → List ℕ → (place : ℕ) → Glance → (after : List ℕ) → Type 0
SightIntoOwes d s place r after = SightOwes d s place (beside r after)

abbrev pub WithOwes : Glance → (fields : List ℕ) → Look → Type 0
WithOwes g vs r = r ≡ beside g vs
