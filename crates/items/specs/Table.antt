-- The content of an array, room by room.
use Rattle.std.specs.Prelude.{ℕ, zero, suc, List, [], ◌∷◌}

-- m rooms: room i holds g i
unfoldable pub table : ℕ → (ℕ → ℕ) → List ℕ
table zero g = []
table (suc m) g = g 0 ∷ table m (λ i. g (suc i))
