-- Tables: what each room holds, and what a store, a repeat and a cut make of them.
use Prim.Native.Nat.{ℕ, zero, suc, ◌<◌, ◌≤◌}
use mathlib.Core.Bool.{cond}
use mathlib.Core.List.{List, [], ◌∷◌}
use mathlib.Core.Path.{◌≡◌, refl, ap, ap₂}
use native.Mathlib.Omega.{arith}
use lib.Dec.{eqb, eqb-zero-suc, eqb-suc-zero, eqb-suc-suc}
use lib.ListN.{length, get_or, take, set, replicate}
use Rattle.items.specs.Table.{table}

pub length_table : (m : ℕ) (g : ℕ → ℕ) → length (table m g) ≡ m
unfolding table
length_table zero g = refl
length_table (suc m) g = ap suc (length_table m (λ i. g (suc i)))

pub get_d_table : (m : ℕ) (g : ℕ → ℕ) (i d : ℕ) → i < m → get_or (table m g) i d ≡ g i
unfolding table
get_d_table zero g i d h = absurd (omega arith)
get_d_table (suc m) g zero d h = refl
get_d_table (suc m) g (suc i) d h = get_d_table m (λ j. g (suc j)) i d (omega arith)

-- rooms that hold the same make the same table
pub table_same : (m : ℕ) (g h : ℕ → ℕ) → ((i : ℕ) → i < m → g i ≡ h i) → table m g ≡ table m h
unfolding table
table_same zero g h e = refl
table_same (suc m) g h e =
    ap₂ (λ x l. x ∷ l) (e 0 (omega arith)) (table_same m (λ i. g (suc i)) (λ i. h (suc i)) (λ i q. e (suc i) (omega arith)))

-- a store into room k; one beyond the last changes nothing
pub set_table : (m : ℕ) (g : ℕ → ℕ) (k v : ℕ) → set (table m g) k v ≡ table m (λ i. cond (eqb i k) v (g i))
unfolding table
set_table zero g k v = refl
set_table (suc m) g zero v = simp eqb-suc-zero
set_table (suc m) g (suc k) v = simp (eqb-zero-suc, eqb-suc-suc, set_table m (λ i. g (suc i)) k v)

pub replicate_table : (m v : ℕ) → replicate m v ≡ table m (λ i. v)
unfolding table
replicate_table zero v = refl
replicate_table (suc m) v = ap (λ l. v ∷ l) (replicate_table m v)

pub take_table : (k m : ℕ) (g : ℕ → ℕ) → k ≤ m → take k (table m g) ≡ table k g
unfolding table
take_table zero m g h = refl
take_table (suc k) zero g h = absurd (omega arith)
take_table (suc k) (suc m) g h = ap (λ l. g 0 ∷ l) (take_table k m (λ i. g (suc i)) (omega arith))

-- every list is a table
pub table_of : (l : List ℕ) (d : ℕ) → l ≡ table (length l) (λ i. get_or l i d)
unfolding table
table_of [] d = refl
table_of (x ∷ l) d = ap (λ r. x ∷ r) (table_of l d)
