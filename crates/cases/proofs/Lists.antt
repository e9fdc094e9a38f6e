-- Every log of the list is judged as it says, by computation.
use mathlib.Core.Path.{refl}
use Rattle.cases.specs.Lists.{list_cases, AllJudged, core_a, DefinesA}
use Rattle.cases.proofs.Row.{◌&◌}
use Rattle.cases.proofs.Unfolded.{lists_open}

pub lists_judged : AllJudged list_cases × DefinesA
unfolding list_cases core_a lists_open
lists_judged = (
  refl & refl & refl & refl & refl & refl & refl & refl & refl & refl & refl & refl & refl & refl & refl
      & refl & refl & refl & refl & refl & refl & refl & refl & refl & refl & refl & refl & refl & refl & refl & tt,
  refl,
)
