-- What a host reads of what it is told: each of the eight numbers is read again as it was, and the bytes are as many as before.
use Prim.Native.Nat.{ℕ, zero, suc, ◌+◌, ◌*◌, ◌<◌, ◌≤◌}
use mathlib.Core.List.{List, [], ◌∷◌, ◌++◌}
use mathlib.Core.Path.{◌≡◌, sym, ap, ◌∙◌}
use native.Mathlib.Omega.{arith}
use lib.ListN.{length, get_or, drop, replicate}
use lib.Seq.{sets-eq, length-sets, drop-drop}
use Rattle.octets.proofs.Stores.{length_longs}
use Rattle.octets.specs.Bytes.{le32, le64, num64, longs}
use Rattle.octets.proofs.Round.{num_le64}
use Rattle.reader.specs.Place.{padded}
use Rattle.dulimasca.specs.Told.{told_length, telling, number_told}

num_longs : (vs rest : List ℕ) (i : ℕ) → i < length vs → get_or vs i 0 < 18446744073709551616 → num64 (drop (8 * i) (longs vs ++ rest)) ≡ get_or vs i 0
unfolding le64 le32
num_longs [] rest i h small = absurd (omega arith)
num_longs (v ∷ vs) rest zero h small = num_le64 v (longs vs ++ rest) small
num_longs (v ∷ vs) rest (suc i) h small =
    let eight : 8 * suc i ≡ 8 + 8 * i = omega arith in
    ap (λ n. num64 (drop n (longs (v ∷ vs) ++ rest))) eight
    ∙ ap num64 (sym (drop-drop (8 * i) 8 (longs (v ∷ vs) ++ rest)))
    ∙ num_longs vs rest i (omega arith) small

pub telling_long : (numbers told : List ℕ) → length (telling numbers told) ≡ length told
unfolding telling
telling_long numbers told = length-sets told 0 (longs (padded 8 numbers))

pub told_number : (numbers told : List ℕ) (i : ℕ) → told_length ≤ length told → i < 8 → get_or (padded 8 numbers) i 0 < 18446744073709551616 →
    number_told i (telling numbers told) ≡ get_or (padded 8 numbers) i 0
unfolding telling number_told
told_number numbers told i room h small =
    let xs = padded 8 numbers in
    let n : length xs ≡ 8 = length-sets (replicate 8 0) 0 numbers in
    let long = length_longs xs in
    ap (λ l. num64 (drop (8 * i) l)) (sets-eq (longs xs) told 0 (omega arith)) ∙ num_longs xs (drop (0 + length (longs xs)) told) i (omega arith) small
