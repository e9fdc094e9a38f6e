-- `walks::count` meets its contract: it gives the answer and the tally of a whole walk from the start. Assumes nothing.
use Rattle.walks.proofs.Whole.{count_is}
use Rattle.walks.proofs.count.Goals as goal

pub returns : goal.returns
returns c = count_is _ _ _ c.start.ensures _ c.through-looked.ensures
