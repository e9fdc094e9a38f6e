-- Encoding 8 is of the size and the values that its head tells; and those, as the code finds them.
use Prim.Native.Nat.{ℕ, zero, suc, ◌+◌, ◌-◌, ◌*◌, ◌/◌, ◌%◌, ◌^◌, ◌<◌, ◌≤◌}
use mathlib.Core.List.{List, [], ◌∷◌, map}
use mathlib.Core.Path.{◌≡◌, refl, sym, ◌∙◌}
use native.Mathlib.Omega.{arith}
use lib.ListN.{length, get_or, take, drop, length-drop}
use lib.Seq.{take-nil, drop-cons, drop-drop, get_or-drop, take-take, length-take-le}
use Rattle.bits.specs.Pattern.{pattern, lowered, signed}
use Rattle.reader.specs.Place.{padded}
use Rattle.tagged.specs.Choose.{pairs, choose}
use Rattle.tagged.specs.Sized.{halves_behind, packed_from, size8, values8}
use Rattle.tagged.specs.Tagged16.{width, widths, halves, big, unpacked, encoding8}
use Rattle.tagged.proofs.Ends.{SizedByHead}
use Rattle.tagged.proofs.Fixed.{Fixed, recast, given, one_byte, then, some_bytes}

-- two halves a byte
twice : (n : ℕ) → 2 * suc n ≡ suc (suc (2 * n))
twice n = omega arith

length_halves : (d : List ℕ) → length (halves d) ≡ 2 * length d
unfolding halves
length_halves [] = refl
length_halves (b ∷ d) = rw (twice (length d), length_halves d)

halves_take : (n : ℕ) (d : List ℕ) → halves (take n d) ≡ take (2 * n) (halves d)
unfolding halves
halves_take zero d = refl
halves_take (suc n) [] = sym (take-nil (2 * suc n))
halves_take (suc n) (b ∷ d) = rw (twice n, halves_take n d)

-- the halves of byte j
halves_at : (d : List ℕ) (j : ℕ) → (get_or (halves d) (2 * j) 0 ≡ get_or d j 0 / 16) × (get_or (halves d) (suc (2 * j)) 0 ≡ get_or d j 0 % 16)
unfolding halves
halves_at [] j = (refl, refl)
halves_at (b ∷ d) zero = (refl, refl)
halves_at (b ∷ d) (suc j) = rw (twice j) (halves_at d j)

-- a part of a beginning is the beginning of a part
drop_take : (w m : ℕ) (hs : List ℕ) → w ≤ m → drop w (take m hs) ≡ take (m - w) (drop w hs)
drop_take zero m hs h = let z : m - 0 ≡ m = omega arith in rw z
drop_take (suc w) zero hs h = absurd (omega arith)
drop_take (suc w) (suc m) [] h = sym (take-nil (suc m - suc w))
drop_take (suc w) (suc m) (x ∷ hs) h = let z : suc m - suc w ≡ m - w = omega arith in rw z (drop_take w m hs (omega arith))

-- codes need no more than their half bytes
unpacked_take : (codes : List ℕ) (m : ℕ) (hs : List ℕ) → widths codes ≤ m → unpacked codes (take m hs) ≡ unpacked codes hs
unfolding unpacked widths
unpacked_take [] m hs h = refl
unpacked_take (code ∷ codes) m hs h =
    let w : width code ≤ m = omega arith in
    let rest : widths codes ≤ m - width code = omega arith in
    rw (take-take (width code) m hs w, drop_take (width code) m hs w, unpacked_take codes (m - width code) (drop (width code) hs) rest)

fixed8 : (c : List ℕ) → Fixed encoding8 c (size8 (get_or c 0 0)) (values8 (get_or c 0 0) c)
unfolding encoding8 size8 values8
fixed8 c =
    recast (then _ (one_byte c) (then _ (some_bytes _ _) (given _ _))) (omega arith)
    (λ h. rw halves_take (unpacked_take (pairs 4 (get_or c 0 0)) (2 * ((widths (pairs 4 (get_or c 0 0)) + 1) / 2)) _ (omega arith)))

some8 : (head : ℕ) → 0 < size8 head
unfolding size8
some8 head = omega arith

pub headed8 : SizedByHead encoding8 size8 values8
headed8 = record { some = some8; fixed = fixed8 }

-- k half bytes and j more, where j is written out
abbrev on_by : ℕ → ℕ → ℕ
on_by k zero = k
on_by k (suc j) = k + suc j

-- n half bytes from there on, one by one
abbrev pub big_from : ℕ → List ℕ → ℕ → ℕ → ℕ
big_from zero hs k j = 0
big_from (suc n) hs k j = get_or hs (on_by k j) 0 * 16 ^ n + big_from n hs k (suc j)

on_by_law : (k j : ℕ) → on_by k j ≡ k + j
on_by_law k zero = omega arith
on_by_law k (suc j) = refl

big_from_law : (n : ℕ) (hs : List ℕ) (k j : ℕ) → k + j + n ≤ length hs → big (take n (drop (on_by k j) hs)) ≡ big_from n hs k j
unfolding big
big_from_law zero hs k j h = refl
big_from_law (suc n) hs k j h =
    let more : suc (on_by k j) ≡ k + suc j = omega (arith, on_by_law k j) in
    let there : on_by k j < length hs = omega (arith, on_by_law k j) in
    let long : n ≤ length (drop (k + suc j) hs) = rw (length-drop (k + suc j) hs) (omega arith) in
    rw (drop-cons hs (on_by k j) 0 there, more, length-take-le n (drop (k + suc j) hs) long, big_from_law n hs k (suc j) (omega arith))

-- the width of a code, written out
pub width_at : (m : ℕ) {code : ℕ} → code ≡ m → width code ≡ choose m 0 1 2 4
unfolding width
width_at m e = rw e

-- a place has as many half bytes behind it
behind_length : (s : List ℕ) (at : ℕ) → length (halves_behind at s) ≡ 2 * (length s - at - 1)
unfolding halves_behind
behind_length s at = rw (length_halves, length-drop, length-drop)

-- and the number of a code, written out, from half byte k on
pub packed_is : (m : ℕ) (s : List ℕ) (at k : ℕ) {code r x : ℕ} → r ≡ pattern (lowered (2 ^ (4 * choose m 0 1 2 4)) x) → code ≡ m
    → (x ≡ big_from (choose m 0 1 2 4) (halves_behind at s) k 0) × (at + (1 + (k + width code + 1) / 2) ≤ length s)
    → r ≡ pattern (packed_from code (halves_behind at s) k)
unfolding packed_from signed
packed_is m s at k {code} f e h =
    let w : width code ≡ choose m 0 1 2 4 = width_at m e in
    let l : k + 0 + choose m 0 1 2 4 ≤ length (halves_behind at s) = omega (arith, behind_length s at) in
    f ∙ rw (w, big_from_law (choose m 0 1 2 4) (halves_behind at s) k 0 l, h.0)

-- the half bytes of byte j behind the head at a place, and half byte k
module _ (s : List ℕ) (at : ℕ) where
  behind_at : (j : ℕ)
      → (get_or (halves_behind at s) (2 * j) 0 ≡ get_or s (at + (1 + j)) 0 / 16)
      × (get_or (halves_behind at s) (suc (2 * j)) 0 ≡ get_or s (at + (1 + j)) 0 % 16)
  unfolding halves_behind
  behind_at j = simp get_or-drop at (halves_at (drop 1 (drop at s)) j)

  pub half_even : (k : ℕ) {b : ℕ} → b ≡ get_or s (at + (1 + k / 2)) 0 → k % 2 ≡ 0 → b / 16 ≡ get_or (halves_behind at s) k 0
  half_even k e z = let q : 2 * (k / 2) ≡ k = omega arith in rw e (sym (rw q at (behind_at (k / 2)).0))

  pub half_odd : (k : ℕ) {b : ℕ} → b ≡ get_or s (at + (1 + k / 2)) 0 → (k % 2 ≡ 0 → ⊥) → b % 16 ≡ get_or (halves_behind at s) k 0
  half_odd k e z = let q : suc (2 * (k / 2)) ≡ k = omega arith in rw e (sym (rw q at (behind_at (k / 2)).1))

-- the four codes of a head
module _ (head : ℕ) (h : head < 256) where
  third : head / 4 / 4 % 4 ≡ head / 16 % 4
  third = omega arith

  fourth : head / 4 / 4 / 4 % 4 ≡ head / 64
  fourth = omega arith

  pub size8_is : size8 head ≡ 1 + (width (head % 4) + width (head / 4 % 4) + width (head / 16 % 4) + width (head / 64) + 1) / 2
  unfolding size8 widths pairs
  size8_is = rw (third, fourth) (omega arith)

  values8_are : (s : List ℕ) (at : ℕ) → values8 head (drop at s)
      ≡ packed_from (head % 4) (halves_behind at s) 0
      ∷ packed_from (head / 4 % 4) (halves_behind at s) (width (head % 4))
      ∷ packed_from (head / 16 % 4) (halves_behind at s) (width (head % 4) + width (head / 4 % 4))
      ∷ packed_from (head / 64) (halves_behind at s) (width (head % 4) + width (head / 4 % 4) + width (head / 16 % 4))
      ∷ []
  unfolding values8 halves_behind unpacked pairs packed_from
  values8_are s at = rw (third, fourth) (simp drop-drop)

  -- one behind the other: w₀, w₁ and w₂ are the widths of the first three
  pub values8_from : (s : List ℕ) (at : ℕ) {w₀ w₁ w₂ p q r t : ℕ} → w₀ ≡ width (head % 4) → w₁ ≡ width (head / 4 % 4) → w₂ ≡ width (head / 16 % 4)
      → p ≡ pattern (packed_from (head % 4) (halves_behind at s) 0) → q ≡ pattern (packed_from (head / 4 % 4) (halves_behind at s) w₀)
      → r ≡ pattern (packed_from (head / 16 % 4) (halves_behind at s) (w₀ + w₁)) → t ≡ pattern (packed_from (head / 64) (halves_behind at s) (w₀ + w₁ + w₂))
      → p ∷ q ∷ r ∷ t ∷ 0 ∷ 0 ∷ 0 ∷ 0 ∷ [] ≡ padded 8 (map pattern (values8 head (drop at s)))
  values8_from s at e f g u v w x = cc (values8_are s at)
