-- `calls::step` meets its contract: the step of a walk in parts, which is joined again. It requires an admitted walk, rooms for the fields,
-- and a flag that is right.
use Rattle.section.proofs.Fields.{most}
use Rattle.calls.proofs.Lent.{apart_admitted, apart_barren, joined}
use Rattle.calls.proofs.step.Goals as goal

pub step_in-stepped-requires : goal.step_in-stepped-requires
step_in-stepped-requires c =
    record {
      walk_admitted = (apart_admitted _ _ _ c.light.ensures c.values-values.ensures c.requires.w_admitted.0, most c.args.d c.requires.w_admitted.1);
      barren = apart_barren c.args.d _ c.args.w c.light.ensures c.values-values.ensures c.requires.barren;
    }

pub returns : goal.returns
returns c =
    joined _ _ _ c.light.ensures c.values-values.ensures c.requires.w_admitted.0 _ _ _ c.step_in-stepped.ensures
    _ c.hand_out.ensures
