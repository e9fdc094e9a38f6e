-- How the code goes through a text: blanks to the next byte that is none.
-- No part of the meaning: only contracts of private functions cite it.
use Rattle.std.specs.Prelude.{ℕ, suc, cond, List, [], ◌∷◌}
use Rattle.items.specs.Said.{blank}

-- how many blanks a text starts with
unfoldable pub blanks : List ℕ → ℕ
blanks [] = 0
blanks (b ∷ t) = cond (blank b) (suc (blanks t)) 0
