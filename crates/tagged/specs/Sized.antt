-- How the code goes about encodings 7 and 8: the head tells the size, one test tells whether there are so many bytes, and each value is taken
-- from its own place. No part of the meaning: only contracts of private functions cite it, and proofs/ shows that it comes to the same.
use Rattle.std.specs.Prelude.{ℕ, suc, ◌+◌, ◌*◌, ◌/◌, ◌%◌, cond, ltb, List, [], ◌∷◌, length, get_or, take, drop, ℤ}
use Rattle.bits.specs.Pattern.{signed}
use Rattle.reader.specs.Got.{got, cut, Reader}
use Rattle.tagged.specs.Choose.{pairs, choose}
use Rattle.tagged.specs.Tagged16.{width, widths, halves, big, unpacked}
use Rattle.tagged.specs.Tagged32.{three, little}

-- a group whose head, its first byte, tells the size and the values: cut where the bytes are fewer
unfoldable pub by_head : (size : ℕ → ℕ) → (values : ℕ → List ℕ → List ℤ) → Reader (List ℤ)
by_head size values [] = cut
by_head size values (b ∷ c) = cond (ltb (suc (length c)) (size b)) cut (got (values b (b ∷ c)) (record { bytes = size b }))

-- n bytes of `c` from index i on, as a signed number
unfoldable pub signed_from : ℕ → List ℕ → ℕ → ℤ
signed_from n c i = signed (8 * n) (little (take n (drop i c)))

-- encoding 7: the bytes, head included, for a head with the top two bits k
abbrev pub size_by : ℕ → ℕ → ℕ
size_by k head = 1 + choose k 0 1 2 (3 + head % 4 + head / 4 % 4 + head / 16 % 4)

unfoldable pub size7 : ℕ → ℕ
size7 head = size_by (head / 64) head

-- and the values, for the bytes `c` from the head on
abbrev pub values_by : ℕ → ℕ → List ℕ → List ℤ
values_by k head c =
    choose k
    (three (signed 2 (head / 16 % 4)) (signed 2 (head / 4 % 4)) (signed 2 (head % 4)))
    (three (signed 4 (head % 16)) (signed 4 (get_or c 1 0 / 16)) (signed 4 (get_or c 1 0 % 16)))
    (three (signed 6 (head % 64)) (signed 6 (get_or c 1 0 % 64)) (signed 6 (get_or c 2 0 % 64)))
    (three (signed_from (1 + head % 4) c 1) (signed_from (1 + head / 4 % 4) c (2 + head % 4)) (signed_from (1 + head / 16 % 4) c (3 + head % 4 + head / 4 % 4)))

unfoldable pub values7 : ℕ → List ℕ → List ℤ
values7 head c = values_by (head / 64) head c

-- encoding 8: the half bytes behind a head at a place, and the value of a code from half byte k of them on
unfoldable pub halves_behind : ℕ → List ℕ → List ℕ
halves_behind at s = halves (drop 1 (drop at s))

unfoldable pub packed_from : ℕ → List ℕ → ℕ → ℤ
packed_from code hs k = signed (4 * width code) (big (take (width code) (drop k hs)))

unfoldable pub size8 : ℕ → ℕ
size8 head = 1 + (widths (pairs 4 head) + 1) / 2

unfoldable pub values8 : ℕ → List ℕ → List ℤ
values8 head c = unpacked (pairs 4 head) (halves (drop 1 c))
