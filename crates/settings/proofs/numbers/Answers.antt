-- `settings::numbers` meets its contract: each number is what the value of its line says. Assumes nothing.
use Rattle.settings.proofs.Settling.{numbers_made}
use Rattle.settings.proofs.numbers.Goals as goal

pub returns : goal.returns
returns c = search numbers_made
