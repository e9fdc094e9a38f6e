-- Numbers as bytes, low byte first.
use Rattle.std.specs.Prelude.{ℕ, zero, suc, ◌+◌, ◌*◌, ◌/◌, ◌%◌, List, [], ◌∷◌, ◌++◌, get_or, drop}
use Rattle.std.specs.List.{flat_map}

-- a number of 32 bits in four bytes
unfoldable pub le32 : ℕ → List ℕ
le32 v = v % 256 ∷ v / 256 % 256 ∷ v / 65536 % 256 ∷ v / 16777216 % 256 ∷ []

-- a number of 64 bits in eight
unfoldable pub le64 : ℕ → List ℕ
le64 v = le32 (v % 4294967296) ++ le32 (v / 4294967296)

-- numbers of 32 bits, one behind the other
abbrev pub words : List ℕ → List ℕ
words = flat_map le32

-- numbers of 64 bits, one behind the other
abbrev pub longs : List ℕ → List ℕ
longs = flat_map le64

-- the number in the first four bytes
unfoldable pub num32 : List ℕ → ℕ
num32 bs = get_or bs 0 0 + get_or bs 1 0 * 256 + get_or bs 2 0 * 65536 + get_or bs 3 0 * 16777216

-- the number in the first eight
unfoldable pub num64 : List ℕ → ℕ
num64 bs = num32 bs + num32 (drop 4 bs) * 4294967296

-- the first k numbers of 32 bits
unfoldable pub nums : (k : ℕ) → List ℕ → List ℕ
nums zero bs = []
nums (suc k) bs = num32 bs ∷ nums k (drop 4 bs)
