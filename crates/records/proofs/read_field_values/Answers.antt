-- `records::read_field_values` meets its contract: a record more in each turn, and in the end what all are read by.
use Rattle.std.proofs.Common.{refl, arith}
use Rattle.records.proofs.Gathering.{lays_on, ends}
use Rattle.records.proofs.read_field_values.Goals as goal

pub loop-i-init : goal.loop-i-init
loop-i-init c = (refl, refl)

pub loop-i-preserved : goal.loop-i-preserved
loop-i-preserved c =
    let fields = c.args.fields.now in (
      lays_on (λ f. f.encoding) fields c.loop-i.i _ c.loop-i.invariant.0 (omega arith),
      lays_on (λ f. f.predictor) fields c.loop-i.i _ c.loop-i.invariant.1 (omega arith),
    )

pub returns : goal.returns
returns c =
    ends c.args.fields.now c.loop-i.i c.args.context c.args.s.now c.args.from
    c.read_fields.ensures c.loop-i.invariant.0 c.loop-i.invariant.1 (omega arith)
