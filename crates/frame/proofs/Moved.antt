-- A time moved by an offset, held at 0 and at the top: the library's word for it.
use Rattle.std.proofs.Common.{◌≡◌, ℕ, suc, ◌-◌, ◌^◌, ◌<◌, ℤ, pos, negsuc, ◌+ℤ◌, ap, ◌∙◌, arith}
use Rattle.std.specs.Int.{saturate_unsigned}
use Rattle.std.proofs.lemmas.Int.{to_z_pos}
use Rattle.std.proofs.Math.Facts.{to_z-neg}
use mir.Syntax.{w32, w64}
use mir.Val.{of_z, to_z}
use Rattle.bits.specs.Pattern.{meant, signed}
use Rattle.bits.proofs.Laws.{by_halves}
use Rattle.frame.specs.Time.{top, held}

held_is : (z : ℤ) → saturate_unsigned w64 z ≡ held z
unfolding held top
held_is (pos n) = omega arith
held_is (negsuc n) = omega arith

-- an offset is cast to a signed number of 32 bits, and then to one of 64
abbrev cast : ℕ → ℤ
cast x = to_z w64 (of_z w64 (to_z w32 (of_z w32 (to_z w32 x))))

cast_low : (k x : ℕ) → (k < 2 ^ 31) × (x ≡ 2 ^ 32 - suc k) → cast x ≡ negsuc k
cast_low k x h = rw (h.1, to_z-neg w32 k h.0, to_z-neg w32 k h.0) (to_z-neg w64 k (omega arith))

cast_is : (x : ℕ) → x < 2 ^ 32 → cast x ≡ meant x
unfolding meant signed
cast_is x h =
    by_halves (λ z. cast x ≡ z) (2 ^ 32) x h
    (λ l. let k : x < 2 ^ 31 = omega arith in rw (to_z_pos w32 x k, to_z_pos w32 x k) (to_z_pos w64 x (omega arith)))
    (λ l. cast_low (2 ^ 32 - suc x) x (omega arith))

-- what is cast, added and saturated
pub moved : (t x : ℕ) {s f : ℤ} {r : ℕ} → x < 2 ^ 32 → s ≡ to_z w32 x → f ≡ to_z w32 (of_z w32 s)
    → r ≡ saturate_unsigned w64 (pos t +ℤ to_z w64 (of_z w64 f)) → r ≡ held (pos t +ℤ meant x)
moved t x {s} {f} {r} h a b e =
    e ∙ held_is _ ∙ ap (λ z. held (pos t +ℤ z)) (ap (λ y. to_z w64 (of_z w64 y)) (b ∙ ap (λ y. to_z w32 (of_z w32 y)) a) ∙ cast_is x h)
