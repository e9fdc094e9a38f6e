-- Values put in front of a buffer, as many as it has places.
use Prim.Native.Nat.{ℕ, zero, suc, min}
use mathlib.Core.List.{List, [], ◌∷◌, ◌++◌}
use mathlib.Core.Path.{◌≡◌, refl, sym, ap, ◌∙◌}
use native.Mathlib.Omega.{arith}
use lib.ListN.{length, take, drop, set}
use lib.Seq.{sets}

-- a buffer of no places takes none
pub sets_none : (i : ℕ) (vs : List ℕ) → sets [] i vs ≡ []
sets_none i [] = refl
sets_none i (v ∷ vs) = sets_none (suc i) vs

-- behind the first place
sets_behind : (x : ℕ) (l : List ℕ) (i : ℕ) (vs : List ℕ) → sets (x ∷ l) (suc i) vs ≡ x ∷ sets l i vs
sets_behind x l i [] = refl
sets_behind x l i (v ∷ vs) = sets_behind x (set l i v) (suc i) vs

pub in_front : (n : ℕ) (vs l : List ℕ) → n ≡ min (length vs) (length l) → take n vs ++ drop n l ≡ sets l 0 vs
in_front zero [] l e = refl
in_front zero (v ∷ vs) [] e = sym (sets_none 0 (v ∷ vs))
in_front zero (v ∷ vs) (x ∷ l) e = absurd (omega arith)
in_front (suc n) [] l e = absurd (omega arith)
in_front (suc n) (v ∷ vs) [] e = absurd (omega arith)
in_front (suc n) (v ∷ vs) (x ∷ l) e = ap (λ r. v ∷ r) (in_front n vs l (omega arith)) ∙ sym (sets_behind v l 0 vs)

-- no more values are there than there are
pub cut_same : (k n : ℕ) (l : List ℕ) → n ≡ min k (length l) → take n l ≡ take k l
cut_same zero zero l e = refl
cut_same zero (suc n) l e = absurd (omega arith)
cut_same (suc k) zero [] e = refl
cut_same (suc k) zero (x ∷ l) e = absurd (omega arith)
cut_same (suc k) (suc n) [] e = absurd (omega arith)
cut_same (suc k) (suc n) (x ∷ l) e = ap (λ r. x ∷ r) (cut_same k n l (omega arith))
