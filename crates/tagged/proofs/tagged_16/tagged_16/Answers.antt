-- `tagged::tagged_16::tagged_16` meets its contract: the encoding is read by its head. Assumes nothing.
use Rattle.tagged.proofs.Ends.{read_by_head}
use Rattle.tagged.proofs.Numbers8.{headed8}
use Rattle.tagged.proofs.tagged_16.tagged_16.Goals as goal

pub returns : goal.returns
returns c = rw (← read_by_head headed8) c.sized_by_head.ensures
