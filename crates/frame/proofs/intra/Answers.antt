-- `frame::intra` meets its contract: it lends what it has to `intra_in`. Assumes nothing.
use Rattle.frame.proofs.Whole.{intra_whole}
use Rattle.frame.proofs.intra.Goals as goal

pub returns : goal.returns
returns c =
    intra_whole c.args.d c.args.last c.args.raw c.head.ensures c.intra_in-head.ensures c.with.ensures
