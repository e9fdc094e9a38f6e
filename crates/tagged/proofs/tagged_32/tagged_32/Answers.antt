-- `tagged::tagged_32::tagged_32` meets its contract: the encoding is read by its head. Assumes nothing.
use Rattle.tagged.proofs.Ends.{read_by_head}
use Rattle.tagged.proofs.Numbers7.{headed7}
use Rattle.tagged.proofs.tagged_32.tagged_32.Goals as goal

pub returns : goal.returns
returns c = rw (← read_by_head headed7) c.sized_by_head.ensures
