-- `extent::without_numbers` meets its contract: the rooms are empty. Assumes nothing.
use mathlib.Core.Path.{ap}
use Rattle.raws.specs.Raws.{raw}
use Rattle.extent.specs.Sight.{beside}
use Rattle.extent.proofs.without_numbers.Goals as goal

pub returns : goal.returns
unfolding raw
returns c = ap (λ vs. beside (record { seen = c.args.seen; iteration = 0; time = 0 }) vs) c.clear.ensures
