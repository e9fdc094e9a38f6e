-- `definition::main_lists::is_wrong` meets its contract: n stands at or before the list's place. Assumes nothing.
use Rattle.std.proofs.Common.{arith, ◌∙◌}
use Rattle.definition.proofs.Lengths.{reached_is, wrong_is}
use Rattle.definition.proofs.main_lists.is_wrong.Goals as goal
use Rattle.definition.proofs.main_lists.is_wrong.Goals.{then-reached, else-reached}

pub returns : goal.returns
returns c =
    let counts = c.args.counts.now in
    let e = c.contains-reached.ensures.value ∙ reached_is c.args.n counts c.args.place (omega arith) in
    wrong_is _ _ _ e (elim c.if-reached.branch [ then-reached w ↦ rw w.if-reached.true w.result-is | else-reached w ↦ rw w.if-reached.false w.result-is ])
