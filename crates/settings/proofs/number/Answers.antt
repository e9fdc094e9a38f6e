-- `settings::number` meets its contract: a law for each of its answers. Assumes nothing.
use Rattle.settings.proofs.Texts.{number_large, number_fits}
use Rattle.settings.proofs.number.Goals as goal

pub returns-then-n-largest : goal.returns-then-n-largest
returns-then-n-largest c = number_fits _ _ c.past_plus.ensures c.in_ok-n.ensures c.if-n-largest.true

pub returns-else-n-largest : goal.returns-else-n-largest
returns-else-n-largest c = number_large _ _ c.past_plus.ensures c.in_ok-n.ensures c.if-n-largest.false
