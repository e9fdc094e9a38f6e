-- `definition::main_lists::motor_0` meets its contract: what is found among the names' codes. Assumes nothing.
use Rattle.std.proofs.Common.{arith, ◌∙◌}
use Rattle.digits.specs.Digits.{before}
use Rattle.definition.proofs.Motor.{motor_is}
use Rattle.definition.proofs.main_lists.motor_0.Goals as goal

pub returns : goal.returns
unfolding before
returns c l e = rw c.min.ensures at c.until.ensures ∙ motor_is c.args.names c.args.n c.requires (omega arith) l e
