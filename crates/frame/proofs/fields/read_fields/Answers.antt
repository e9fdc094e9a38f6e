-- `frame::fields::read_fields` meets its contract: what is not sound is refused;
-- else the numbers are read first, and the values made from them. Assumes nothing.
use Rattle.std.proofs.Common.{arith}
use Rattle.frame.proofs.Lists.{sound_few, fields_refused, fields_got, fields_stopped}
use Rattle.frame.proofs.fields.read_fields.Goals as goal

pub returns-then-not-are_sound : goal.returns-then-not-are_sound
returns-then-not-are_sound c = fields_refused _ _ _ _ _ _ c.are_sound.ensures (cc)

pub values-values-requires : goal.values-values-requires
values-values-requires c = sound_few _ _ _ c.args.context c.are_sound.ensures (cc)

pub returns-in_err-raw : goal.returns-in_err-raw
returns-in_err-raw c =
    fields_stopped c.args.n c.args.encodings c.args.predictors c.args.context c.args.s.now c.args.from
    c.are_sound.ensures (cc) c.main_fields.ensures c.in_err-raw.was c.from_residual.ensures.1

pub returns : goal.returns
returns c =
    fields_got c.args.n c.args.encodings c.args.predictors c.args.context c.args.s.now c.args.from
    c.are_sound.ensures (cc) c.main_fields.ensures c.in_ok-raw.was
    c.values-values.ensures (omega (arith, c.well_formed)) (λ j. omega (arith, c.type_inv.s j))
