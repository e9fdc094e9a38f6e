-- `frame::time::time_after` meets its contract: predictor 2 of the times, moved by the offset. Assumes nothing.
use Rattle.std.proofs.Common.{◌+ℤ◌, ap, ◌∙◌, arith}
use Rattle.bits.specs.Pattern.{meant}
use Rattle.frame.specs.Time.{held, time_after}
use Rattle.frame.proofs.Moved.{moved}
use Rattle.frame.proofs.time.time_after.Goals as goal

pub returns : goal.returns
unfolding time_after
returns c =
    λ ls os.
    moved c.predicted_time-time.result c.args.offset (omega arith) c.cast_signed.ensures c.from.ensures c.saturating_add_signed.ensures
    ∙ ap (λ z. held (z +ℤ meant c.args.offset)) (c.predicted_time-time.ensures ls os)
