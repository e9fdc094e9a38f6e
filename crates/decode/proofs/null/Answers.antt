-- `decode::null` meets its contract. Assumes nothing.
use mathlib.Core.Path.{sym, ap}
use Rattle.std.specs.Prelude.{Ok}
use Rattle.reader.specs.Got.{give}
use Rattle.reader.specs.Place.{read_at}
use Rattle.reader.proofs.Reading.{on_nothing}
use Rattle.decode.specs.Variable.{encoding9}
use Rattle.decode.proofs.null.Goals as goal

pub returns : goal.returns
unfolding encoding9 give read_at
returns c = λ s. ap (λ n. Ok (0, n)) (sym (on_nothing c.args.from))
