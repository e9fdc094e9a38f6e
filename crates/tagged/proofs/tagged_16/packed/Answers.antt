-- `tagged::tagged_16::packed` meets its contract. Assumes nothing.
use native.Mathlib.Omega.{arith}
use mathlib.Core.Path.{refl}
use Rattle.bits.specs.Pattern.{wrap, pattern, lowered}
use Rattle.tagged.proofs.Numbers8.{width_at, packed_is}
use Rattle.tagged.proofs.tagged_16.packed.Goals as goal

pub half-requires : goal.half-requires
half-requires c = omega (arith, width_at 1 c.in-1.is)

pub half-requires-in-2 : goal.half-requires-in-2
half-requires-in-2 c = omega (arith, width_at 2 c.in-2.is)

pub half-requires-in-2-2 : goal.half-requires-in-2-2
half-requires-in-2-2 c = omega (arith, width_at 2 c.in-2.is)

pub half-requires-in_default : goal.half-requires-in_default
half-requires-in_default c = omega (arith, width_at 3 {code = c.args.code} (omega arith))

pub half-requires-in_default-2 : goal.half-requires-in_default-2
half-requires-in_default-2 c = omega (arith, width_at 3 {code = c.args.code} (omega arith))

pub half-requires-in_default-3 : goal.half-requires-in_default-3
half-requires-in_default-3 c = omega (arith, width_at 3 {code = c.args.code} (omega arith))

pub half-requires-in_default-4 : goal.half-requires-in_default-4
half-requires-in_default-4 c = omega (arith, width_at 3 {code = c.args.code} (omega arith))

pub returns-in-0 : goal.returns-in-0
unfolding wrap pattern lowered
returns-in-0 c = packed_is 0 _ _ _ {x = 0} refl c.in-0.is (omega arith)

pub returns-in-1 : goal.returns-in-1
returns-in-1 c = packed_is 1 _ _ _ c.sign_extend.ensures c.in-1.is (omega arith)

pub returns-in-2 : goal.returns-in-2
returns-in-2 c = packed_is 2 _ _ _ c.sign_extend-in-2.ensures c.in-2.is (omega arith)

pub returns-in_default : goal.returns-in_default
returns-in_default c = packed_is 3 _ _ _ c.sign_extend-in_default.ensures (omega arith) (omega arith)
