-- `settings::inter` meets its contract, by whether there is a line. Assumes nothing.
use Rattle.settings.proofs.Settling.{inter_line, inter_none}
use Rattle.settings.proofs.inter.Goals as goal

pub returns-in-Some : goal.returns-in-Some
returns-in-Some c = search inter_line

pub returns-in-None : goal.returns-in-None
returns-in-None c = search inter_none
