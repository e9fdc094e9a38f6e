-- Exactly as many numbers follow as the head has ones (document 01): the fields of a group are so many numbers of encoding 0 in a row, each in
-- the place of its bit.
use Prim.Native.Nat.{ℕ, zero, suc, ◌+◌, ◌/◌, ◌%◌, ◌^◌, ◌<◌, ◌≤◌}
use mathlib.Core.List.{List, [], ◌∷◌}
use mathlib.Core.Path.{◌≡◌, sym, ap, ◌∙◌}
use native.Mathlib.Nat.{pow-suc, zero-add}
use native.Mathlib.Omega.{arith}
use lib.Count.{ones, ones_in, ones_step}
use lib.IntN.{ℤ, pos}
use lib.ListN.{get_or, drop}
use Rattle.reader.specs.Got.{over, Reader, ◌>>=◌, give}
use Rattle.reader.proofs.Reading.{over_over, onward_give, onward_same, over_onward, give_onward}
use Rattle.decode.specs.TaggedVariable.{marked, fields}
use Rattle.decode.specs.Variable.{encoding0}

-- k numbers in a row
unfoldable pub numbers : ℕ → Reader (List ℤ)
numbers zero = give []
numbers (suc k) = do
  z ← encoding0
  zs ← numbers k
  give (z ∷ zs)

-- a field takes the next number where its bit is set, and is 0 where it is clear
abbrev pub taken : ℕ → (List ℤ → List ℤ) → List ℤ → List ℤ
taken zero others zs = pos 0 ∷ others zs
taken (suc b) others zs = get_or zs 0 (pos 0) ∷ others (drop 1 zs)

unfoldable pub spread : ℕ → ℕ → List ℤ → List ℤ
spread zero head zs = []
spread (suc n) head zs = taken (head % 2) (spread n (head / 2)) zs

-- one field before the others
module _ (n bits : ℕ) (others : (d : List ℕ) → fields n bits d ≡ over (spread n bits) (numbers (ones bits) d)) where
  abbrev Before : ℤ → Reader (List ℤ)
  Before z = ◌>>=◌ (fields n bits) (λ zs. give (z ∷ zs))

  before : (z : ℤ) (d : List ℕ) → Before z d ≡ over (λ zs. z ∷ spread n bits zs) (numbers (ones bits) d)
  unfolding ◌>>=◌
  before z d =
      onward_give (λ zs. z ∷ zs) d (fields n bits d) ∙ ap (over (λ zs. z ∷ zs)) (others d) ∙ over_over (spread n bits) (λ zs. z ∷ zs) (numbers (ones bits) d)

  field : (b : ℕ) → b ≤ 1 → (c : List ℕ) → ◌>>=◌ (marked b) Before c ≡ over (taken b (spread n bits)) (numbers (b + ones bits) c)
  unfolding marked numbers ◌>>=◌
  field zero h c = rw zero-add (give_onward (pos 0) Before c ∙ before (pos 0) c)
  field (suc b) h c =
      let one_more : suc b + ones bits ≡ suc (ones bits) = omega arith in
      rw one_more
      (onward_same Before (λ z d. over (taken 1 (spread n bits)) (◌>>=◌ (numbers (ones bits)) (λ zs. give (z ∷ zs)) d))
      (λ z d. before z d ∙ sym (ap (over (taken 1 (spread n bits))) (onward_give (λ zs. z ∷ zs) d (numbers (ones bits) d))
      ∙ over_over (λ zs. z ∷ zs) (taken 1 (spread n bits)) (numbers (ones bits) d))) c (encoding0 c)
      ∙ sym (over_onward (taken 1 (spread n bits)) (λ z. ◌>>=◌ (numbers (ones bits)) (λ zs. give (z ∷ zs))) c (encoding0 c)))

pub as_many : (n head : ℕ) → head < 2 ^ n → (c : List ℕ) → fields n head c ≡ over (spread n head) (numbers (ones head) c)
unfolding fields spread numbers give over ones ones_in
as_many zero head h c = let none : head ≡ 0 = omega arith in rw none
as_many (suc n) head h c =
    let half : head / 2 < 2 ^ n = omega (arith, pow-suc 2 n) in
    rw (ones_step head) (field n (head / 2) (as_many n (head / 2) half) (head % 2) (omega arith) c)
