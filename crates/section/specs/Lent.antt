-- Walks in parts: the values of the main frames stand in lent rooms, beside the rest.
-- No part of the meaning: it is cited by contracts of inner functions.
use Rattle.std.specs.Prelude.{replicate}
use Rattle.history.specs.declared.Heads.{Heads}
use Rattle.history.specs.declared.History.{History}
use Rattle.history.specs.Parts.{heads_of, history_of}
use Rattle.section.specs.declared.quick.Light.{Light}
use Rattle.section.specs.declared.quick.Settled.{Settled}
use Rattle.section.specs.declared.quick.Values.{Values}
use Rattle.section.specs.declared.Walk.{Walk}
use Rattle.section.specs.Answers.{paper_of, Told}

-- a walk taken apart, before it has handed out any fields
abbrev pub light_of : Walk → Light
light_of w = record { tally = w.tally; heads = heads_of w.history }

abbrev pub values_of : Walk → Values
values_of w = record { last = w.history.last.values; older = w.history.older.values; fields = replicate 62 0 }

-- and put together again
abbrev pub history_beside : Heads → Values → History
history_beside hs v = history_of hs v.last v.older

abbrev pub walk_of : Light → Values → Walk
walk_of w v = record { tally = w.tally; history = history_beside w.heads v }

-- all that is given, with the values that stand beside it
abbrev pub told_beside : Settled → Values → Told
told_beside r v = record { said = paper_of r.answer; trials = r.walk.tally.trials; walk = walk_of r.walk v; out = v.fields }
