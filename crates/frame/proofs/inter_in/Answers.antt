-- `frame::inter_in` meets its contract: the fields get the values of both frames. Assumes nothing.
use Rattle.std.proofs.Common.{ap, ◌∙◌}
use Rattle.plan.specs.Plan.{shape, rules}
use Rattle.frame.specs.Frames.{inter_fields}
use Rattle.frame.specs.Parts.{frame_of, raw_of}
use Rattle.frame.specs.Time.{skipped_after}
use Rattle.frame.proofs.Whole.{counted, inter_is}
use Rattle.frame.proofs.inter_in.Goals as goal

pub returns : goal.returns
unfolding inter_fields skipped_after shape rules
returns c =
    λ k.
    let lasts = c.args.last_values.now in
    let olders = c.args.older_values.now in
    let by_lists = rw c.fields-n.ensures at c.main_fields-fields.ensures in
    inter_is c.args.d (frame_of c.args.last lasts) (frame_of c.args.older olders) (raw_of k c.args.time c.args.raws.now)
    c.values_of.ensures by_lists c.values.ensures c.values-2.ensures
    (c.next_iteration.ensures lasts ∙ ap (λ f. counted f.around.skipped (frame_of c.args.last lasts)) by_lists)
    (c.time_after.ensures lasts olders)
