-- `tagged::tagged_16::Encoding8::values_of` meets its contract. Assumes nothing.
use native.Mathlib.Omega.{arith}
use Rattle.tagged.proofs.Numbers8.{size8_is, values8_from}
use Rattle.tagged.proofs.tagged_16.Encoding8SizedByHead.values_of.Goals as goal

pub packed-requires : goal.packed-requires
packed-requires c = omega (arith, size8_is c.args.head (omega arith))

pub packed-requires-2 : goal.packed-requires-2
packed-requires-2 c = omega (arith, size8_is c.args.head (omega arith))

pub packed-requires-3 : goal.packed-requires-3
packed-requires-3 c = omega (arith, size8_is c.args.head (omega arith))

pub packed-requires-4 : goal.packed-requires-4
packed-requires-4 c = omega (arith, size8_is c.args.head (omega arith))

pub returns : goal.returns
returns c = search values8_from
