-- How the code hands a group on: whole, or why there is none. No part of the meaning: only contracts of private functions cite it.
use Rattle.std.specs.Prelude.{Result, Ok, Err}
use Rattle.reader.specs.declared.Fault.{Fault}
use Rattle.reader.specs.declared.Group.{Group}
use Rattle.reader.specs.Place.{no_values}

abbrev pub whole : Result Group Fault → Group
whole (Ok g) = g
whole (Err d) = no_values (Err d)
