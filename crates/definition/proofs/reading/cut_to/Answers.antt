-- `definition::reading::cut_to` meets its contract: the items that are copied, and zeros behind them. Assumes nothing.
use Rattle.std.proofs.Common.{arith}
use Rattle.definition.proofs.Laid.{laid_is}
use Rattle.definition.proofs.reading.cut_to.Goals as goal

pub returns : goal.returns
returns g c =
    rw (c.copy_from_slice.ensures.after, c.min.ensures) (laid_is c.args.from g.row.N c.args.n c.args.row (omega arith) c.requires.rooms)
