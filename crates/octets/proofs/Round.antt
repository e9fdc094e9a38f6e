-- What is stored is loaded, and what is loaded from bytes has the size of its number.
use Prim.Native.Nat.{ℕ, zero, suc, ◌+◌, ◌*◌, ◌/◌, ◌%◌, ◌<◌}
use mathlib.Core.Path.{◌≡◌, refl, ap, ap₂, ◌∙◌}
use mathlib.Core.List.{List, [], ◌∷◌, ◌++◌}
use native.Mathlib.Omega.{arith}
use Rattle.std.proofs.lemmas.Nat.{from_le_bytes-to_le_bytes_4}
use lib.ListN.{length, get_or, drop}
use lib.Seq.{get_or-drop}
use Rattle.octets.specs.Bytes.{le32, le64, words, num32, num64, nums}

-- each number fits in 32 bits
abbrev pub Small : List ℕ → Type 0
Small [] = Unit
Small (v ∷ vs) = (v < 4294967296) × Small vs

-- each number fits in a byte
abbrev pub Bytes : List ℕ → Type 0
Bytes bs = (i : ℕ) → get_or bs i 0 < 256

pub num_le : (v : ℕ) (rest : List ℕ) → v < 4294967296 → num32 (le32 v ++ rest) ≡ v
unfolding num32 le32
num_le v rest h = from_le_bytes-to_le_bytes_4 v h

pub num_le64 : (v : ℕ) (rest : List ℕ) → v < 18446744073709551616 → num64 (le64 v ++ rest) ≡ v
unfolding num64 le64 le32
num_le64 v rest h =
    let a : num32 (le32 (v % 4294967296) ++ (le32 (v / 4294967296) ++ rest)) ≡ v % 4294967296 = num_le (v % 4294967296) _ (omega arith) in
    let b : num32 (le32 (v / 4294967296) ++ rest) ≡ v / 4294967296 = num_le (v / 4294967296) rest (omega arith) in
    ap₂ (λ (x y : ℕ). x + y * 4294967296) a b ∙ (let q : v % 4294967296 + v / 4294967296 * 4294967296 ≡ v = omega arith in q)

pub nums_words : (vs rest : List ℕ) → Small vs → nums (length vs) (words vs ++ rest) ≡ vs
unfolding nums le32
nums_words [] rest s = refl
nums_words (v ∷ vs) rest s = ap₂ (λ (x : ℕ) (l : List ℕ). x ∷ l) (num_le v (words vs ++ rest) s.0) (nums_words vs rest s.1)

pub bytes_drop : (n : ℕ) (bs : List ℕ) → Bytes bs → Bytes (drop n bs)
bytes_drop n bs b i = rw (get_or-drop n bs i 0) (b (n + i))

pub num32_small : (bs : List ℕ) → Bytes bs → num32 bs < 4294967296
unfolding num32
num32_small bs b = omega (arith, b 0, b 1, b 2, b 3)

pub num64_small : (bs : List ℕ) → Bytes bs → num64 bs < 18446744073709551616
unfolding num64
num64_small bs b = omega (arith, num32_small bs b, num32_small (drop 4 bs) (bytes_drop 4 bs b))

pub nums_small : (k : ℕ) (bs : List ℕ) → Bytes bs → Small (nums k bs)
unfolding nums
nums_small zero bs b = tt
nums_small (suc k) bs b = (num32_small bs b, nums_small k (drop 4 bs) (bytes_drop 4 bs b))

pub length_nums : (k : ℕ) (bs : List ℕ) → length (nums k bs) ≡ k
unfolding nums
length_nums zero bs = refl
length_nums (suc k) bs = ap suc (length_nums k (drop 4 bs))
