-- The search as the library's `position` goes about it.
use Prim.Native.Nat.{ℕ, ◌+◌, ◌≤◌}
use mathlib.Core.Bool.{Bool, true, false, cond}
use mathlib.Core.List.{List, [], ◌∷◌}
use mathlib.Core.Logic.{◌⊎◌, inl, inr}
use mathlib.Core.Path.{◌≡◌, refl, sym, ap, ◌∙◌}
use native.Mathlib.Omega.{arith}
use borrow.Author.Tests.{ne_eqb}
use lib.Dec.{eqb, ltb}
use lib.ListN.{length, drop, length-drop, drop_of_length-le}
use Rattle.std.specs.Prelude.{Option, Some, None, option_map, slice_range}
use Rattle.std.specs.List.{position_from, position_or_len}
use Rattle.std.proofs.lemmas.List.{take_all}
use Rattle.std.proofs.lemmas.Iterator.Adapters.{position_from-zero}
use Rattle.reader.specs.declared.Kind.TheVariants.{Inter}
use Rattle.reader.specs.Search.{letter_of, searched, further, ahead}

abbrev pub sought : ℕ → Bool
sought b = searched (letter_of b)

one_on : (i : ℕ) (o : Option ℕ) → option_map (λ m. (i + 1) + m) o ≡ option_map (λ m. i + m) (further o)
one_on i None = refl
one_on i (Some m) = ap Some (omega arith)

either : (t : Bool) (i : ℕ) (o : Option ℕ) → cond t (Some i) (option_map (λ m. (i + 1) + m) o) ≡ option_map (λ m. i + m) (cond t (Some 0) (further o))
either true i o = ap Some (omega arith)
either false i o = one_on i o

from_here : (i : ℕ) (t : List ℕ) → position_from sought i t ≡ option_map (λ m. i + m) (ahead t)
unfolding ahead
from_here i [] = refl
from_here i (b ∷ t) = ap (cond (sought b) (Some i)) (from_here (i + 1) t) ∙ either (sought b) i (ahead t)

nothing_before : (o : Option ℕ) → option_map (λ m. 0 + m) o ≡ o
nothing_before None = refl
nothing_before (Some m) = ap Some (omega arith)

pub ahead_position : (t : List ℕ) → cond (ltb (position_or_len sought t) (length t)) (Some (position_or_len sought t)) None ≡ ahead t
ahead_position t = position_from-zero sought t ∙ from_here 0 t ∙ nothing_before (ahead t)

-- the bytes from a place on, as the library cuts them
pub to_the_end : (s : List ℕ) (i : ℕ) → slice_range s i (length s) ≡ drop i s
to_the_end s i = take_all _ (drop i s) (omega (arith, length-drop i s))

-- beyond the end nothing is left
pub beyond : (s : List ℕ) (i : ℕ) → length s ≤ i → None ≡ ahead (drop i s)
unfolding ahead
beyond s i h = ap ahead (sym (drop_of_length-le s h))

-- ## A byte that is sought, or is not

pub passed : (b : ℕ) → (b ≡ 69 → ⊥) × (b ≡ 71 → ⊥) × (b ≡ 72 → ⊥) × (b ≡ 73 → ⊥) × (b ≡ 83 → ⊥) → false ≡ sought b
unfolding searched letter_of
passed b h = rw (ne_eqb b 69 h.0, ne_eqb b 71 h.1, ne_eqb b 72 h.2, ne_eqb b 73 h.3, ne_eqb b 83 h.4) (p_or_none (eqb b 80))
  where
    p_or_none : (t : Bool) → false ≡ searched (cond t (Some Inter) None)
    p_or_none true = refl
    p_or_none false = refl

pub is_sought : (b : ℕ) → (b ≡ 69) ⊎ (b ≡ 71) ⊎ (b ≡ 72) ⊎ (b ≡ 73) ⊎ (b ≡ 83) → true ≡ sought b
unfolding searched letter_of
is_sought b (inl e) = rw e
is_sought b (inr (inl e)) = rw e
is_sought b (inr (inr (inl e))) = rw e
is_sought b (inr (inr (inr (inl e)))) = rw e
is_sought b (inr (inr (inr (inr e)))) = rw e
