-- What the database host asks for is what the worked cases say, by computation.
use Rattle.cases.specs.Walks.{Hold, host}
use Rattle.cases.proofs.Calls.{owed}
use Rattle.cases.proofs.Unfolded.{whole_open}

pub host_worked : Hold host
unfolding host whole_open
host_worked = ((λ r owes. owes), (owed, (owed, (owed, tt))))
