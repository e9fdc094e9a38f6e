-- Writing numbers as bytes: a part of a buffer written at once, one store behind another, and the turns of the loop that stores values.
use Prim.Native.Nat.{ℕ, suc, ◌+◌, ◌*◌, ◌/◌, ◌%◌, ◌<◌, ◌≤◌}
use mathlib.Core.Path.{◌≡◌, refl, ap, ◌∙◌}
use mathlib.Core.List.{List, [], ◌∷◌, ◌++◌}
use native.Mathlib.Omega.{arith}
use native.Mathlib.Numerals.{add-one}
use native.Mathlib.Nat.{div-div-eq-div-mul}
use borrow.Rule.Slice.PartMut.{put_mid}
use lib.ListN.{length, get_or, take, set, length-append}
use lib.Seq.{sets, take-suc, length-take-le, drop-drop}
use Rattle.std.specs.Int.{w32, w64, to_le_bytes}
use Rattle.std.specs.List.{flat_map}
use Rattle.std.proofs.Common.{append_assoc}
use Rattle.std.proofs.lemmas.List.{flat_map_more}
use Rattle.std.proofs.lemmas.List.Edits.{sets-eq}
use Rattle.octets.specs.Bytes.{le32, le64, words, longs}
use Rattle.octets.specs.Widths.{length_le32, length_le64}

pub le32_is : (v : ℕ) → to_le_bytes w32 v ≡ le32 v
unfolding le32
le32_is v = refl

pub le64_is : (v : ℕ) → to_le_bytes w64 v ≡ le64 v
unfolding le64 le32
le64_is v =
    let a : v % 4294967296 % 256 ≡ v % 256 = omega arith in
    let b : v % 4294967296 / 256 % 256 ≡ v / 256 % 256 = omega arith in
    let c : v % 4294967296 / 65536 % 256 ≡ v / 65536 % 256 = omega arith in
    let d : v % 4294967296 / 16777216 % 256 ≡ v / 16777216 % 256 = omega arith in
    rw (a, b, c, d, div-div-eq-div-mul v 4294967296 256, div-div-eq-div-mul v 4294967296 65536, div-div-eq-div-mul v 4294967296 16777216)

-- a part written at once
pub written : (b₀ : List ℕ) (at k : ℕ) (xs ys : List ℕ) → xs ≡ ys → k ≡ length ys → at + length ys ≤ length b₀ → put_mid at k b₀ xs ≡ sets b₀ at ys
written b₀ at k xs ys e f h = rw (e, f, sets-eq ys b₀ at h, drop-drop, append_assoc)

length_listed : {A : Type 0} (f : A → List ℕ) (w : ℕ) → ((v : A) → length (f v) ≡ w) → (vs : List A) → length (flat_map f vs) ≡ w * length vs
length_listed f w long [] = omega arith
length_listed f w long (v ∷ vs) = let h = length_listed f w long vs in let g = long v in simp length-append (omega arith)

pub length_words : (vs : List ℕ) → length (words vs) ≡ 4 * length vs
length_words = length_listed le32 4 length_le32

pub length_longs : (vs : List ℕ) → length (longs vs) ≡ 8 * length vs
length_longs = length_listed le64 8 length_le64

pub sets_append : (l : List ℕ) (i : ℕ) (xs ys : List ℕ) {j : ℕ} → j ≡ i + length xs → sets (sets l i xs) j ys ≡ sets l i (xs ++ ys)
sets_append l i [] ys e = ap (λ (k : ℕ). sets l k ys) (let q : _ ≡ i = omega arith in q)
sets_append l i (x ∷ xs) ys e = sets_append (set l i x) (suc i) xs ys (omega arith)

-- one store behind another
pub then_put : (b₀ : List ℕ) (at : ℕ) (xs ys : List ℕ) {b b' : List ℕ} {j : ℕ}
    → b ≡ sets b₀ at xs → b' ≡ sets b j ys → j ≡ at + length xs → b' ≡ sets b₀ at (xs ++ ys)
then_put b₀ at xs ys {b} {b'} {j} e f g = f ∙ ap (λ (l : List ℕ). sets l j ys) e ∙ sets_append b₀ at xs ys g

-- one number more, of whatever width: what is stored are the first i + 1
pub put_next : {A : Type 0} (f : A → List ℕ) (w : ℕ) → ((v : A) → length (f v) ≡ w) → (vs : List A) (d : A) (b₀ b b' : List ℕ) (at i : ℕ)
    → b ≡ sets b₀ at (flat_map f (take i vs)) → i < length vs → b' ≡ sets b (at + w * i) (f (get_or vs i d)) → b' ≡ sets b₀ at (flat_map f (take (i + 1) vs))
put_next f w long vs d b₀ b b' at i e h r =
    let m : at + w * i ≡ at + length (flat_map f (take i vs)) = rw (length_listed f w long (take i vs), length-take-le i vs (omega arith)) in
    then_put b₀ at (flat_map f (take i vs)) (f (get_or vs i d)) e r m
    ∙ ap (sets b₀ at) (flat_map_more f [] (take i vs) (get_or vs i d) ∙ ap (flat_map f) (rw (add-one, take-suc vs i d (omega arith))))
