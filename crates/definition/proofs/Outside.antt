-- Slow lists that are no stretches of their text are refused by 1, at the lowest of 0, 1, 3 and 5 that is not there; four absent ones pass.
use mathlib.Core.List.{[], ◌∷◌}
use Rattle.std.specs.Prelude.{Option, None, Some}
use mathlib.Core.Path.{◌≡◌, refl}
use Rattle.items.specs.declared.Stretch.{Stretch}
use Rattle.items.specs.Items.{absent, given}
use Rattle.plan.specs.Plan.{no_numbers}
use Rattle.definition.specs.Checks.{Finding, refusal, ◌or_else◌}
use Rattle.definition.specs.Defined.{slow_absent, no_slow_lists, slow_finding}

-- stretches of the text `0`: one that lies in it, one beyond it, and one that ends before it starts
abbrev within : Option Stretch
within = Some (record { start = 0; end = 1 })

abbrev beyond : Option Stretch
beyond = Some (record { start = 1; end = 2 })

abbrev backwards : Option Stretch
backwards = Some (record { start = 1; end = 0 })

-- what is found of lists 0, 1, 3 and 5 of that text
abbrev finding : (names predictors encodings signs : Option Stretch) → Finding
finding names predictors encodings signs =
    slow_finding (48 ∷ []) (record { names = names; predictors = predictors; encodings = encodings; signs = signs }) no_numbers

pub outside_refused :
    (finding None None None None ≡ None)
    × (finding beyond beyond beyond beyond ≡ Some (refusal 1 0 0))
    × (finding backwards None None None ≡ Some (refusal 1 0 0))
    × (finding None None None beyond ≡ Some (refusal 1 0 0))
    × (finding within backwards beyond beyond ≡ Some (refusal 1 1 0))
    × (finding within within beyond None ≡ Some (refusal 1 3 0))
    × (finding within within within beyond ≡ Some (refusal 1 5 0))
unfolding slow_finding no_slow_lists absent slow_absent given ◌or_else◌
outside_refused = (refl, refl, refl, refl, refl, refl, refl)
