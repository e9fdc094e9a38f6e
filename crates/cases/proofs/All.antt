-- Every case of the list holds, by computation.
use mathlib.Core.Path.{refl}
use Rattle.cases.specs.Starred.{Hold, starred}
use Rattle.cases.proofs.Unfolded.{walk_open}

pub all : Hold starred
unfolding starred walk_open
all = (refl, (refl, (refl, (refl, ((λ a m. refl), ((λ a m. refl), ((λ a m. refl), ((λ a m. refl), ((λ a m. refl), (refl, (refl, (refl, (refl, tt)))))))))))))
