-- Reading numbers from bytes: four bytes and eight, and the turns of the loop that loads values.
use Prim.Native.Nat.{ℕ, zero, suc, ◌+◌, ◌*◌, ◌<◌}
use mathlib.Core.Path.{◌≡◌, refl, ap, ◌∙◌}
use mathlib.Core.List.{List, [], ◌∷◌, ◌++◌}
use native.Mathlib.Omega.{arith}
use native.Mathlib.Numerals.{add-one}
use lib.ListN.{length, get_or, take, drop, set}
use lib.Seq.{take-suc-set, get_or-drop, drop-drop}
use Rattle.std.specs.Int.{w32, from_le_bytes}
use Rattle.std.proofs.Common.{add-zero}
use Rattle.octets.specs.Bytes.{num32, num64, nums}

pub num_at : (l : List ℕ) (at : ℕ) →
    from_le_bytes w32 (get_or l at 0 ∷ get_or l (at + 1) 0 ∷ get_or l (at + 2) 0 ∷ get_or l (at + 3) 0 ∷ []) ≡ num32 (drop at l)
unfolding num32
num_at l at = rw (get_or-drop at l 0 0, get_or-drop at l 1 0, get_or-drop at l 2 0, get_or-drop at l 3 0, add-zero)

pub take_long : (l : List ℕ) (at : ℕ) {x y x' y' : ℕ} → x ≡ num32 (drop at l) → x' ≡ x → y ≡ num32 (drop (at + 4) l) → y' ≡ y →
    x' + y' * 4294967296 ≡ num64 (drop at l)
unfolding num64
take_long l at e p f q = rw (p, e, q, f, drop-drop 4 at l)

nums_snoc : (k : ℕ) (bs : List ℕ) → nums (suc k) bs ≡ nums k bs ++ (num32 (drop (4 * k) bs) ∷ [])
unfolding nums
nums_snoc zero bs = refl
nums_snoc (suc k) bs =
    let four : 4 + 4 * k ≡ 4 * suc k = omega arith in
    ap (λ (l : List ℕ). num32 bs ∷ l)
    (nums_snoc k (drop 4 bs) ∙ ap (λ (l : List ℕ). nums k (drop 4 bs) ++ (num32 l ∷ [])) (drop-drop (4 * k) 4 bs ∙ ap (λ (m : ℕ). drop m bs) four))

-- one value more: what is loaded are the first i + 1
pub take_value : (vs bs : List ℕ) (at i : ℕ) {v : ℕ} → take i vs ≡ nums i (drop at bs) → i < length vs → v ≡ num32 (drop (at + 4 * i) bs) →
    take (i + 1) (set vs i v) ≡ nums (i + 1) (drop at bs)
take_value vs bs at i e h q = rw (add-one, take-suc-set vs i _ h, nums_snoc, e, q, drop-drop)
