-- `raws::intra_front` meets its contract: the iteration, the time, and the fields behind them. Assumes nothing.
use mathlib.Core.Path.{ap, ◌∙◌}
use Rattle.reader.proofs.Reading.{handed_on}
use Rattle.raws.specs.Chunks.{settled}
use Rattle.raws.specs.Raws.{timed, intra_raw}
use Rattle.raws.proofs.Frames.{fields_is, lent_on, lent_stop}
use Rattle.raws.proofs.intra_front.Goals as goal

pub returns-in_err-iteration : goal.returns-in_err-iteration
unfolding intra_raw
returns-in_err-iteration c = ap (λ r. settled r c.args.out.now) (handed_on c.from_residual.ensures.1) ∙ lent_stop _ _ _ _ c.in_err-iteration.ensures

pub returns-in_err-time : goal.returns-in_err-time
unfolding intra_raw timed
returns-in_err-time c =
    ap (λ r. settled r c.args.out.now) (handed_on c.from_residual-in_err-time.ensures.1)
    ∙ lent_on _ _ _ _ c.in_ok-iteration.ensures (lent_stop _ _ _ _ c.in_err-time.ensures)

pub returns : goal.returns
unfolding intra_raw timed
returns c = lent_on _ _ _ _ c.in_ok-iteration.ensures (lent_on _ _ _ _ c.in_ok-time.ensures (fields_is _ _ _ _ _ c.fields_into.ensures))
