-- Encoding 7 is of the size and the values that its head tells; and those, as the code finds them.
use Prim.Native.Nat.{ℕ, zero, suc, ◌+◌, ◌*◌, ◌/◌, ◌%◌, ◌^◌, ◌<◌, ◌≤◌}
use mathlib.Core.List.{List, map}
use mathlib.Core.Path.{◌≡◌, refl, sym, ◌∙◌}
use native.Mathlib.Numerals.{add-one}
use native.Mathlib.Omega.{arith}
use lib.ListN.{length, get_or, take, drop}
use lib.Seq.{drop-cons, drop-drop, get_or-drop}
use Rattle.bits.specs.Pattern.{pattern, lowered, signed, meant}
use Rattle.bits.proofs.Laws.{pattern_meant}
use Rattle.reader.specs.Place.{padded}
use Rattle.tagged.specs.Sized.{signed_from, size_by, size7, values_by, values7}
use Rattle.tagged.specs.Tagged32.{two_bits, four_bits, six_bits, little, signed_bytes, whole_bytes, encoding7}
use Rattle.tagged.proofs.Ends.{SizedByHead}
use Rattle.tagged.proofs.Fixed.{Fixed, recast, given, one_byte, then, some_bytes, chosen}

-- m bytes on from index i
on_from : {d : List ℕ} (c : List ℕ) (m i j : ℕ) → i + m ≡ j → d ≡ drop i c → drop m d ≡ drop j c
on_from c m i j e f = rw (f, drop-drop m i c, e)

-- n bytes from index i on
signed_bytes_law : {d : List ℕ} (n : ℕ) (c : List ℕ) (i : ℕ) → d ≡ drop i c → Fixed (signed_bytes n) d n (signed_from n c i)
unfolding signed_bytes signed_from
signed_bytes_law n c i e = recast (then _ (some_bytes n _) (given _ _)) (omega arith) (λ h. rw e)

-- what stands behind the head, by its top two bits
module _ (c : List ℕ) (head : ℕ) where
  two_bits_law : Fixed (two_bits head) (drop 1 c) 0 (values_by 0 head c)
  unfolding two_bits
  two_bits_law = given _ _

  four_bits_law : Fixed (four_bits head) (drop 1 c) 1 (values_by 1 head c)
  unfolding four_bits
  four_bits_law = recast (then _ (one_byte _) (given _ _)) refl (λ h. rw (get_or-drop 1 c 0 0))

  six_bits_law : Fixed (six_bits head) (drop 1 c) 2 (values_by 2 head c)
  unfolding six_bits
  six_bits_law =
      recast (then _ (one_byte _) (then _ (one_byte _) (given _ _))) refl (λ h. rw (get_or-drop 1 (drop 1 c) 0 0, get_or-drop 1 c 1 0, get_or-drop 1 c 0 0))

  whole_bytes_law : Fixed (whole_bytes head) (drop 1 c) (3 + head % 4 + head / 4 % 4 + head / 16 % 4) (values_by 3 head c)
  unfolding whole_bytes
  whole_bytes_law =
      let y : drop (1 + head % 4) (drop 1 c) ≡ drop (2 + head % 4) c = on_from c (1 + head % 4) 1 (2 + head % 4) (omega arith) refl in
      let z : drop (1 + head / 4 % 4) (drop (1 + head % 4) (drop 1 c)) ≡ drop (3 + head % 4 + head / 4 % 4) c =
      on_from c (1 + head / 4 % 4) (2 + head % 4) (3 + head % 4 + head / 4 % 4) (omega arith) y in
      recast
      (then _ (signed_bytes_law (1 + head % 4) c 1 refl)
      (then _ (signed_bytes_law (1 + head / 4 % 4) c (2 + head % 4) y)
      (then _ (signed_bytes_law (1 + head / 16 % 4) c (3 + head % 4 + head / 4 % 4) z) (given _ _))))
      (omega arith)
      (λ h. refl)

fixed7 : (c : List ℕ) → Fixed encoding7 c (size7 (get_or c 0 0)) (values7 (get_or c 0 0) c)
unfolding encoding7 size7 values7
fixed7 c = then _ (one_byte c) (chosen (get_or c 0 0 / 64) (two_bits_law c _) (four_bits_law c _) (six_bits_law c _) (whole_bytes_law c _))

some7 : (head : ℕ) → 0 < size7 head
unfolding size7
some7 head = omega arith

pub headed7 : SizedByHead encoding7 size7 values7
headed7 = record { some = some7; fixed = fixed7 }

-- n bytes from i on, one by one
abbrev pub little_from : ℕ → List ℕ → ℕ → ℕ
little_from zero s i = 0
little_from (suc n) s i = get_or s i 0 + 256 * little_from n s (i + 1)

little_from_law : (n : ℕ) (s : List ℕ) (i : ℕ) → i + n ≤ length s → little (take n (drop i s)) ≡ little_from n s i
unfolding little
little_from_law zero s i h = refl
little_from_law (suc n) s i h =
    let more : i + 1 + n ≤ length s = omega arith in
    rw (drop-cons s i 0 (omega arith), ← add-one i, little_from_law n s (i + 1) more)

-- m + 1 bytes, m written out
pub bytes_are : (m : ℕ) (s : List ℕ) (at : ℕ) {n r v : ℕ} → r ≡ pattern (lowered (2 ^ (8 * (1 + m))) v)
    → n ≡ m → (v ≡ little_from (1 + m) s at) × (at + n < length s) → r ≡ pattern (signed_from (1 + n) s at)
unfolding signed_from signed
bytes_are m s at f e h =
    let l : at + (1 + m) ≤ length s = omega arith in
    f ∙ rw (e, little_from_law (1 + m) s at l, h.0)

-- four bytes: no sign to extend
pub four_bytes_are : (s : List ℕ) (at : ℕ) {n v : ℕ} → n ≡ 3 → (v ≡ little_from 4 s at) × (at + n < length s) × (v < 2 ^ 32)
    → v ≡ pattern (signed_from (1 + n) s at)
unfolding meant signed
four_bytes_are s at {n} {v} e h = bytes_are 3 s at (sym (pattern_meant v (omega arith))) e (omega arith)

-- the head's top two bits, written out
pub size7_at : (k head : ℕ) → head / 64 ≡ k → size7 head ≡ size_by k head
unfolding size7
size7_at k head e = rw e

pub values7_at : (k head : ℕ) (c : List ℕ) {r : List ℕ} → r ≡ padded 8 (map pattern (values_by k head c)) → head / 64 ≡ k
    → r ≡ padded 8 (map pattern (values7 head c))
unfolding values7
values7_at k head c f e = rw e f

-- bytes from a place on
pub signed_at : (n : ℕ) (s : List ℕ) (at i : ℕ) → signed_from n (drop at s) i ≡ signed_from n s (at + i)
unfolding signed_from
signed_at n s at i = rw (drop-drop i at s)
