-- `settings::intra` meets its contract, by whether there is a line. Assumes nothing.
use Rattle.settings.proofs.Settling.{intra_line, intra_one, intra_zero}
use Rattle.settings.proofs.intra.Goals as goal

pub returns-in-Some : goal.returns-in-Some
returns-in-Some c = search intra_line

pub returns-then-numerator-denominator : goal.returns-then-numerator-denominator
returns-then-numerator-denominator c = search intra_one

pub returns-else-numerator-denominator : goal.returns-else-numerator-denominator
returns-else-numerator-denominator c = search intra_zero
