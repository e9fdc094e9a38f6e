-- `tagged::tagged_32::signed_bytes` meets its contract. Assumes nothing.
use native.Mathlib.Omega.{arith}
use Rattle.tagged.proofs.Numbers7.{bytes_are, four_bytes_are}
use Rattle.tagged.proofs.tagged_32.signed_bytes.Goals as goal

pub returns-then-n-eq0 : goal.returns-then-n-eq0
returns-then-n-eq0 c = bytes_are 0 _ _ c.sign_extend.ensures c.if-n-eq0.true (omega arith)

pub returns-then-n-eq1 : goal.returns-then-n-eq1
returns-then-n-eq1 c = bytes_are 1 _ _ c.sign_extend-then-n-eq1.ensures c.if-n-eq1.true (omega arith)

pub returns-then-n-eq2 : goal.returns-then-n-eq2
returns-then-n-eq2 c = bytes_are 2 _ _ c.sign_extend-then-n-eq2.ensures c.if-n-eq2.true (omega arith)

pub returns : goal.returns
returns c = four_bytes_are _ _ (omega arith) (omega arith)
