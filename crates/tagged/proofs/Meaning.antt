-- What the numbers mean: of bytes, encodings 7 and 8 give only integers that 32 bits can mean, so that nothing is lost where they leave as patterns.
use Prim.Native.Nat.{ℕ, zero, suc, ◌*◌, ◌/◌, ◌^◌, ◌≤◌, ◌<◌}
use mathlib.Core.List.{List, [], ◌∷◌, map}
use mathlib.Core.Path.{◌≡◌, sym, ap, ◌∙◌}
use native.Mathlib.Nat.{mul-zero, mul-suc, pow-zero, pow-suc, pow-succ', lt_of_lt_of_le}
use native.Mathlib.Omega.{arith}
use lib.Arith.{digits_lt}
use lib.ListN.{length, take, drop, length-take}
use lib.Pow.{pow-add, pow_mono}
use Rattle.bits.specs.Pattern.{signed, pattern, meant, Fits32}
use Rattle.bits.proofs.Laws.{signed_fits}
use Rattle.reader.specs.Got.{over}
use Rattle.reader.proofs.Every.{Each, Bytes, drop_each, take_each, Reads, then_reads, give_reads, byte_reads, bytes_reads, group_meant}
use Rattle.tagged.specs.Choose.{pairs}
use Rattle.tagged.specs.Tagged32.{three, two_bits, four_bits, six_bits, little, signed_bytes, whole_bytes, encoding7}
use Rattle.tagged.specs.Tagged16.{width, halves, big, unpacked, encoding8}
use Rattle.tagged.proofs.Choice.{by_choice}

-- Encoding 7, by size: three of as many bits, in the head and the bytes behind it
three_fit : (bits x y z : ℕ) → bits ≤ 32 → (x < 2 ^ bits) × (y < 2 ^ bits) × (z < 2 ^ bits)
    → Each Fits32 (three (signed bits x) (signed bits y) (signed bits z))
three_fit bits x y z le h = (signed_fits bits x le h.0, (signed_fits bits y le h.1, (signed_fits bits z le h.2, tt)))

two_bits_fit : (head : ℕ) → Reads (Each Fits32) (two_bits head)
unfolding two_bits
two_bits_fit head = give_reads _ (three_fit 2 _ _ _ (omega arith) (omega arith))

four_bits_fit : (head : ℕ) → Reads (Each Fits32) (four_bits head)
unfolding four_bits
four_bits_fit head =
    then_reads byte_reads λ b hb.
    give_reads _ (three_fit 4 _ _ _ (omega arith) (omega arith))

six_bits_fit : (head : ℕ) → Reads (Each Fits32) (six_bits head)
unfolding six_bits
six_bits_fit head =
    then_reads byte_reads λ b hb. then_reads byte_reads λ d hd.
    give_reads _ (three_fit 6 _ _ _ (omega arith) (omega arith))

-- n digits of k bits are k * n bits
powers : (k n : ℕ) → (2 ^ k) ^ n ≡ 2 ^ (k * n)
powers k zero = pow-zero (2 ^ k) ∙ sym (ap (λ (m : ℕ). 2 ^ m) (mul-zero k) ∙ pow-zero 2)
powers k (suc n) = pow-suc (2 ^ k) n ∙ ap (λ (m : ℕ). m * 2 ^ k) (powers k n) ∙ sym (ap (λ (m : ℕ). 2 ^ m) (mul-suc k n) ∙ pow-add 2 (k * n) k)

-- and n bytes are 8 * n
little_below : (bs : List ℕ) → Bytes bs → little bs < 256 ^ length bs
unfolding little
little_below [] h = omega arith
little_below (b ∷ bs) h = omega (arith, pow-succ' 256 (length bs), little_below bs h.1)

signed_bytes_fits : (n : ℕ) → n ≤ 4 → Reads Fits32 (signed_bytes n)
unfolding signed_bytes
signed_bytes_fits n le =
    then_reads (bytes_reads n) λ bs h. give_reads _ (signed_fits (8 * n) (little bs) (omega arith) (rw (h.0, powers 8 n) at (little_below bs h.1)))

whole_bytes_fit : (head : ℕ) → Reads (Each Fits32) (whole_bytes head)
unfolding whole_bytes
whole_bytes_fit head =
    then_reads (signed_bytes_fits _ (omega arith)) λ x hx.
    then_reads (signed_bytes_fits _ (omega arith)) λ y hy.
    then_reads (signed_bytes_fits _ (omega arith)) λ z hz.
    give_reads _ (hx, (hy, (hz, tt)))

pub encoding7_fit : Reads (Each Fits32) encoding7
unfolding encoding7
encoding7_fit =
    then_reads byte_reads λ head h.
    by_choice (Reads _) (head / 64) (two_bits_fit head) (four_bits_fit head) (six_bits_fit head) (whole_bytes_fit head)

-- Encoding 8: half bytes, and the numbers that they make
abbrev Halves : List ℕ → Type 0
Halves hs = Each (λ h. h < 16) hs

halves_below : (bs : List ℕ) → Bytes bs → Halves (halves bs)
unfolding halves
halves_below [] h = tt
halves_below (b ∷ bs) h = (omega arith, (omega arith, halves_below bs h.1))

big_below : (hs : List ℕ) → Halves hs → big hs < 16 ^ length hs
unfolding big
big_below [] h = omega arith
big_below (x ∷ xs) h = rw (pow-succ' 16 (length xs)) (digits_lt h.0 (big_below xs h.1))

-- of w half bytes or fewer
packed_below : (w : ℕ) (hs : List ℕ) → Halves hs → big (take w hs) < 2 ^ (4 * w)
packed_below w hs h =
    let few : 4 * length (take w hs) ≤ 4 * w = omega (arith, length-take w hs) in
    lt_of_lt_of_le (rw (powers 4 (length (take w hs))) at (big_below (take w hs) (take_each (λ h. h < 16) w hs h))) (pow_mono few)

width_small : (code : ℕ) → width code ≤ 4
unfolding width
width_small code = by_choice (λ w. w ≤ 4) code (omega arith) (omega arith) (omega arith) (omega arith)

unpacked_fit : (codes hs : List ℕ) → Halves hs → Each Fits32 (unpacked codes hs)
unfolding unpacked
unpacked_fit [] hs h = tt
unpacked_fit (code ∷ codes) hs h = (
  signed_fits (4 * width code) (big (take (width code) hs)) (omega (arith, width_small code)) (packed_below (width code) hs h),
  unpacked_fit codes (drop (width code) hs) (drop_each (λ h. h < 16) (width code) hs h),
)

pub encoding8_fit : Reads (Each Fits32) encoding8
unfolding encoding8
encoding8_fit =
    then_reads byte_reads λ head h.
    then_reads (bytes_reads _) λ bs hb.
    give_reads _ (unpacked_fit (pairs 4 head) (halves bs) (halves_below bs hb.1))

-- So each number is had back from its pattern.
pub encoding7_meant : (c : List ℕ) → Bytes c → over (map meant) (over (map pattern) (encoding7 c)) ≡ encoding7 c
encoding7_meant = group_meant encoding7_fit

pub encoding8_meant : (c : List ℕ) → Bytes c → over (map meant) (over (map pattern) (encoding8 c)) ≡ encoding8 c
encoding8_meant = group_meant encoding8_fit
