-- A call of a walk in parts: what it comes to with the values that stand beside it.
-- No part of the meaning: it is cited by contracts of inner functions.
use Rattle.std.specs.Prelude.{Bool, List, ℕ, replicate}
use Rattle.plan.specs.declared.Definition.{Definition}
use Rattle.section.specs.declared.Answer.TheVariants.{Over}
use Rattle.section.specs.declared.quick.Light.{Light}
use Rattle.section.specs.declared.quick.Values.{Values}
use Rattle.section.specs.Lent.{walk_of}
use Rattle.calls.specs.declared.Called.{Called}
use Rattle.calls.specs.declared.quick.Stepped.{Stepped}
use Rattle.calls.specs.Steps.{Steps}

abbrev pub called_of : Stepped → Values → Called
called_of r v = record { looked = record { answer = r.answer; trials = r.walk.tally.trials; walk = walk_of r.walk v }; barren = r.barren }

-- a call from an admitted walk, with the rooms before and after it; those for the fields hold them, and 0 behind the last, whatever they held before
abbrev pub StepsIn : Definition → Light → List ℕ → Values → Stepped → (after : Values) → Type 0
StepsIn d w s v r after = Steps d (walk_of w v) s (replicate 62 0) (called_of r after) after.fields

-- a walk that has ended
abbrev pub over_beside : Light → (barren : Bool) → Stepped
over_beside w barren = record { answer = Over w.tally.ending; walk = w; barren = barren }
