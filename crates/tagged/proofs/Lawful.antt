-- Progress and stability of encodings 7 and 8. How many bytes a head asks for is said by `headed7` and `headed8` (Numbers7, Numbers8).
use Prim.Native.Nat.{ℕ, ◌/◌}
use native.Mathlib.Omega.{arith}
use Rattle.reader.proofs.Lawful.{Lawful, lawful_give, lawful_byte, lawful_bytes, lawful_fewer, lawful_then, lawful_map}
use Rattle.tagged.specs.Tagged16.{encoding8}
use Rattle.tagged.specs.Tagged32.{two_bits, four_bits, six_bits, signed_bytes, whole_bytes, encoding7}
use Rattle.tagged.proofs.Choice.{by_choice}

two_bits_law : (head : ℕ) → Lawful 0 (two_bits head)
unfolding two_bits
two_bits_law head = lawful_give _

four_bits_law : (head : ℕ) → Lawful 1 (four_bits head)
unfolding four_bits
four_bits_law head = lawful_map _ lawful_byte

six_bits_law : (head : ℕ) → Lawful 2 (six_bits head)
unfolding six_bits
six_bits_law head = lawful_then lawful_byte (λ b. lawful_map _ lawful_byte)

signed_bytes_law : (n : ℕ) → Lawful n (signed_bytes n)
unfolding signed_bytes
signed_bytes_law n = lawful_map _ (lawful_bytes n)

whole_bytes_law : (head : ℕ) → Lawful 3 (whole_bytes head)
unfolding whole_bytes
whole_bytes_law head =
    lawful_fewer 3 (omega arith) (lawful_then (signed_bytes_law _) (λ x. lawful_then (signed_bytes_law _) (λ y. lawful_map _ (signed_bytes_law _))))

pub encoding7_lawful : Lawful 1 encoding7
unfolding encoding7
encoding7_lawful =
    lawful_then lawful_byte
    (λ head. by_choice (Lawful 0) (head / 64) (two_bits_law head) (lawful_fewer 0 (omega arith) (four_bits_law head))
    (lawful_fewer 0 (omega arith) (six_bits_law head)) (lawful_fewer 0 (omega arith) (whole_bytes_law head)))

pub encoding8_lawful : Lawful 1 encoding8
unfolding encoding8
encoding8_lawful = lawful_then lawful_byte (λ head. lawful_fewer 0 (omega arith) (lawful_map _ (lawful_bytes _)))
