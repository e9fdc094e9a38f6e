-- What encodings 7 and 8 share: pairs of bits that choose one of four.
use Rattle.std.specs.Prelude.{ℕ, zero, suc, ◌/◌, ◌%◌, List, [], ◌∷◌}

-- the n lowest pairs of bits, lowest first
unfoldable pub pairs : ℕ → ℕ → List ℕ
pairs zero v = []
pairs (suc n) v = v % 4 ∷ pairs n (v / 4)

-- 0 chooses the first, 1 the second, 2 the third, 3 the fourth; no two bits are more
abbrev pub choose : {A : Type 0} → ℕ → A → A → A → A → A
choose zero a b c d = a
choose (suc zero) a b c d = b
choose (suc (suc zero)) a b c d = c
choose (suc (suc (suc n))) a b c d = d
