-- `tagged::tagged_32::Encoding7::values_of` meets its contract. Assumes nothing.
use native.Mathlib.Omega.{arith}
use lib.Seq.{get_or-drop}
use Rattle.bits.specs.Pattern.{signed}
use Rattle.tagged.proofs.Numbers7.{size7_at, values7_at, signed_at}
use Rattle.tagged.proofs.tagged_32.Encoding7SizedByHead.values_of.Goals as goal

pub bounds-s-at : goal.bounds-s-at
bounds-s-at c = omega (arith, size7_at 1 c.args.head c.in-1.is)

pub bounds-s-at-in-2 : goal.bounds-s-at-in-2
bounds-s-at-in-2 c = omega (arith, size7_at 2 c.args.head c.in-2.is)

pub bounds-s-at-in-2-2 : goal.bounds-s-at-in-2-2
bounds-s-at-in-2-2 c = omega (arith, size7_at 2 c.args.head c.in-2.is)

pub signed_bytes-requires : goal.signed_bytes-requires
signed_bytes-requires c = omega (arith, size7_at 3 c.args.head (omega arith))

pub signed_bytes-requires-in_default : goal.signed_bytes-requires-in_default
signed_bytes-requires-in_default c = omega (arith, size7_at 3 c.args.head (omega arith))

pub signed_bytes-requires-in_default-2 : goal.signed_bytes-requires-in_default-2
signed_bytes-requires-in_default-2 c = omega (arith, size7_at 3 c.args.head (omega arith))

pub returns-in-0 : goal.returns-in-0
unfolding signed
returns-in-0 c = values7_at 0 _ _ (cc) (omega arith)

pub returns-in-1 : goal.returns-in-1
unfolding signed
returns-in-1 c = values7_at 1 _ _ (simp get_or-drop (cc)) (omega arith)

pub returns-in-2 : goal.returns-in-2
unfolding signed
returns-in-2 c = values7_at 2 _ _ (simp get_or-drop (cc)) (omega arith)

pub returns-in_default : goal.returns-in_default
returns-in_default c = values7_at 3 _ _ (simp signed_at (cc)) (omega arith)
