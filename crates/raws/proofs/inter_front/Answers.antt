-- `raws::inter_front` meets its contract: the offset of the time, and the fields behind it. Assumes nothing.
use mathlib.Core.Path.{ap, ◌∙◌}
use Rattle.reader.proofs.Reading.{handed_on}
use Rattle.raws.specs.Chunks.{settled}
use Rattle.decode.specs.Variable.{encoding0}
use Rattle.raws.specs.Groups.{patterned}
use Rattle.raws.specs.Raws.{inter_raw}
use Rattle.raws.proofs.Frames.{fields_is, lent_on, lent_stop}
use Rattle.raws.proofs.inter_front.Goals as goal

pub returns-in_err-time : goal.returns-in_err-time
unfolding inter_raw patterned
returns-in_err-time c = ap (λ r. settled r c.args.out.now) (handed_on c.from_residual.ensures.1) ∙ lent_stop _ _ _ (patterned encoding0) c.in_err-time.ensures

pub returns : goal.returns
unfolding inter_raw patterned
returns c = lent_on _ _ _ (patterned encoding0) c.in_ok-time.ensures (fields_is _ _ _ _ _ c.fields_into.ensures)
