-- `frame::values_of` meets its contract. The invariant: the fields before `i` have their values, and the rooms from `i` on are 0.
-- It requires as many encodings as predictors, at most 62.
use Rattle.std.specs.Prelude.{option_copied}
use Rattle.frame.specs.Earlier.{fields_of}
use Rattle.frame.proofs.Loop.{Stands}
use Rattle.frame.proofs.values_of.Given as goal

abbrev pub invariant-loop-i : goal.invariant-loop-i
invariant-loop-i l = Stands (fields_of l.fn.fields) (option_copied l.fn.last) (option_copied l.fn.older) l.raws l.i l.values
