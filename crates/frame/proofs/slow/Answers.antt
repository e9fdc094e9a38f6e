-- `frame::slow` meets its contract: it lends what it has to `slow_in`. Assumes nothing.
use Rattle.frame.proofs.slow.Goals as goal

pub returns : goal.returns
returns c = let raw = c.args.raw in c.slow_in.ensures raw.iteration raw.time
