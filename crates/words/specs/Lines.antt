-- The lines of a text, and what comes of calls with them.
use Rattle.std.specs.Prelude.{ℕ, cond, List, [], ◌∷◌, ◌≡◌, ◌⊎◌, eqb, Result, Ok, IsErr}

-- a byte in front of the first of some lines
unfoldable pub in_front : ℕ → List (List ℕ) → List (List ℕ)
in_front b [] = (b ∷ []) ∷ []
in_front b (line ∷ others) = (b ∷ line) ∷ others

-- each line without its line feed; the last may have none
unfoldable pub lines : List ℕ → List (List ℕ)
lines [] = []
lines (b ∷ s) = cond (eqb b 10) ([] ∷ lines s) (in_front b (lines s))

-- what calls with some lines come to, one after the other: the first that fails is the last, and then all fail
module _ {F E : Type 0} (called : F → List ℕ → Result Unit E → F → Type 0) where
  unfoldable pub Told : F → List (List ℕ) → Result Unit E → Type 0
  Told f [] r = r ≡ Ok tt
  Told f (line ∷ others) r = (g : F) × (((s : Result Unit E) × called f line s g × IsErr s × IsErr r) ⊎ (called f line (Ok tt) g × Told g others r))
