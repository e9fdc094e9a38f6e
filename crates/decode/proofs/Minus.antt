-- The low 14 bits of a number, signed and negated, as the code has them: by the half that they stand in.
use Prim.Native.Nat.{ℕ, zero, suc, ◌+◌, ◌-◌, ◌*◌, ◌%◌, ◌<◌, ◌≤◌}
use mathlib.Core.Path.{◌≡◌}
use native.Mathlib.Omega.{arith}
use lib.IntN.{neg_ℤ}
use borrow.Author.Tests.{lt-ltb, le-ltb}
use Rattle.bits.specs.Pattern.{wrap, pattern, lowered, signed}

pub minus_low : (v : ℕ) {r : ℕ} → (r + v) % 4294967296 ≡ 0 → v < 8192 → r < 4294967296 → r ≡ pattern (neg_ℤ (signed 14 v))
unfolding pattern wrap signed lowered
minus_low zero e h f = omega arith
minus_low (suc m) e h f = rw (lt-ltb (2 * suc m) 16384 (omega arith)) (omega arith)

pub minus_high : (v : ℕ) → 8192 ≤ v → v < 16384 → 16384 - v ≡ pattern (neg_ℤ (signed 14 v))
unfolding pattern wrap signed lowered
minus_high v h l = rw (le-ltb (2 * v) 16384 (omega arith), lt-ltb v 16384 l) (omega arith)
