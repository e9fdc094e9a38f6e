-- `frame::inter` meets its contract: it lends what it has to `inter_in`. Assumes nothing.
use Rattle.frame.proofs.Whole.{inter_whole}
use Rattle.frame.proofs.inter.Goals as goal

pub returns : goal.returns
returns c =
    inter_whole c.args.d c.args.last c.args.older c.args.raw c.head.ensures c.head-2.ensures
    (c.inter_in-head.ensures c.args.raw.iteration) c.with.ensures
