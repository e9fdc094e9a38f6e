-- How the code calls: a look in vain is one that ended in a search, and its flag, that the search found nothing, goes on to the next look and the next call.
-- No part of the meaning: it is cited by contracts of inner functions, of which `step` is public for whole walks.
use Rattle.std.specs.Prelude.{Bool, List, ◌≡◌, ℕ, Option, Some, None, is_none}
use Rattle.plan.specs.declared.Definition.{Definition}
use Rattle.extent.specs.declared.Seen.{Seen}
use Rattle.extent.specs.declared.Seen.TheVariants.{Nothing, Passed, Rejected, Cutoff, Accepted}
use Rattle.extent.specs.Sight.{Barren}
use Rattle.section.specs.declared.Walk.{Walk}
use Rattle.section.specs.Answers.{told, handed}
use Rattle.calls.specs.declared.Called.{Called}
use Rattle.calls.specs.Call.{called}

unfoldable pub vain : Seen → Option Bool
vain Nothing = None
vain (Passed n) = Some (is_none n)
vain (Rejected k n) = Some (is_none n)
vain (Cutoff k) = None
vain (Accepted f m) = None

-- a call from an admitted walk: what it tells, and that its flag is right for the next
pub record Steps (d : Definition) (w : Walk) (s out : List ℕ) (r : Called) (after : List ℕ) : Type 0 where
  pub tells : told r.looked after ≡ handed (called d s w) out
  pub barren : Barren r.barren s r.looked.walk.tally.place
