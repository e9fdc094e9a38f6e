-- `store::state::take` meets its contract: behind the last test the bytes are the walk that they say. Assumes nothing.
use Rattle.store.proofs.States.{taken_as}
use Rattle.store.proofs.state.take.Goals as goal

pub returns : goal.returns
returns c =
    taken_as _ c.if-buf-lt-STATE.false c.take64.ensures c.if-take64-ne-STATE_VERSION.false c.in_ok-tally.ensures c.in_ok-last.ensures c.in_ok-older.ensures
