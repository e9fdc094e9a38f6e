-- Every number of a list: from its places, and where numbers are set.
use Prim.Native.Nat.{ℕ, zero, suc, ◌<◌}
use mathlib.Core.List.{List, [], ◌∷◌}
use native.Mathlib.Omega.{arith}
use lib.ListN.{get_or, set, replicate}
use lib.Seq.{sets}
use Rattle.reader.specs.Place.{padded}
use Rattle.sizes.specs.Sized.{Is32, Each}

-- from a bound at each place
pub each_below : {n : ℕ} (vs : List ℕ) → ((i : ℕ) → get_or vs i 0 < n) → Each (λ v. v < n) vs
each_below [] h = tt
each_below (v ∷ vs) h = (h 0, each_below vs (λ i. h (suc i)))

module _ (P : ℕ → Type 0) where
  set_each : (l : List ℕ) (i v : ℕ) → Each P l → P v → Each P (set l i v)
  set_each [] i v h p = tt
  set_each (x ∷ l) zero v h p = (p, h.1)
  set_each (x ∷ l) (suc i) v h p = (h.0, set_each l i v h.1 p)

  sets_each : (l : List ℕ) (i : ℕ) (vs : List ℕ) → Each P l → Each P vs → Each P (sets l i vs)
  sets_each l i [] h k = h
  sets_each l i (v ∷ vs) h k = sets_each (set l i v) (suc i) vs (set_each l i v h k.0) k.1

  zeros_each : P 0 → (n : ℕ) → Each P (replicate n 0)
  zeros_each p zero = tt
  zeros_each p (suc n) = (p, zeros_each p n)

-- 32 bits in each room
pub padded_each : (n : ℕ) (vs : List ℕ) → Each Is32 vs → Each Is32 (padded n vs)
padded_each n vs = sets_each Is32 (replicate n 0) 0 vs (zeros_each Is32 (omega arith) n)
