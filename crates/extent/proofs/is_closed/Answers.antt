-- `extent::is_closed` meets its contract: by the byte there, or the end of data. Assumes nothing.
use mathlib.Core.Path.{◌∙◌}
use Rattle.extent.proofs.First.{closed_by, closed_end}
use Rattle.extent.proofs.is_closed.Goals as goal

pub returns-in-Some : goal.returns-in-Some
returns-in-Some c = c.is_some.ensures ∙ closed_by _ _ c.read_u8.ensures c.in-Some.is c.from_byte.ensures

pub returns-in-None : goal.returns-in-None
returns-in-None c = closed_end _ _ c.read_u8.ensures c.in-None.is
