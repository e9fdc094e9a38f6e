-- Every worked session is what it says, by computation.
use mathlib.Core.Path.{refl}
use Rattle.cases.specs.Walks.{Hold, sessions}
use Rattle.cases.proofs.Unfolded.{walk_open}

pub sessions_worked : Hold sessions
unfolding sessions walk_open
sessions_worked = (refl, (refl, (refl, (refl, (refl, (refl, (refl, (refl, (refl, (refl, (refl, (refl, (refl, (refl, (refl, tt)))))))))))))))
