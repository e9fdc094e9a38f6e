-- The first byte at a place, as the code is answered it: whether a frame may end there, and what it begins.
use Prim.Native.Nat.{ℕ, ◌+◌}
use mathlib.Core.Bool.{Bool, true}
use mathlib.Core.List.{List, [], ◌∷◌}
use mathlib.Core.Path.{◌≡◌, refl, sym, ap, ◌∙◌}
use native.Mathlib.Omega.{arith}
use lib.ListN.{drop}
use lib.Seq.{drop-drop}
use Rattle.std.specs.Prelude.{Option, Some, None, is_some}
use Rattle.plan.specs.Plan.{Shape}
use Rattle.reader.specs.declared.Cursor.{Cursor}
use Rattle.reader.specs.declared.Kind.{Kind}
use Rattle.reader.specs.declared.RestorePoint.{RestorePoint}
use Rattle.reader.specs.Got.{one}
use Rattle.reader.specs.Place.{rest, on, byte_at, point_of, place_of}
use Rattle.reader.specs.Search.{letter_of, ahead}
use Rattle.extent.specs.declared.Look.{Look}
use Rattle.extent.specs.declared.Seen.TheVariants.{Nothing, Passed}
use Rattle.extent.specs.Extent.{closed, bare, trial, judged, begun, look}
use Rattle.extent.specs.Sight.{Barren}
use Rattle.extent.proofs.Flag.{barren_stays}

-- a search from a point is one from the place that the point was made of
pub from_point : (s : List ℕ) (c : Cursor) {p : RestorePoint} → p ≡ point_of c → ahead (rest (place_of p) s) ≡ ahead (rest c s)
from_point s c e = ap (λ (q : RestorePoint). ahead (rest (place_of q) s)) e

-- ## The byte there

here : (c : Cursor) (t : List ℕ) {r : Option (ℕ × Cursor)} {b : ℕ} {q : Cursor} → r ≡ byte_at c t → r ≡ Some (b, q) → (t ≡ b ∷ drop 1 t) × (on c one ≡ q)
unfolding byte_at
here c [] e h = absurd (cc)
here c (a ∷ t) {b = b} {q = q} e h = let same : ◌≡◌ {A = ℕ × Cursor} (a, on c one) (b, q) = cc in (ap (λ p. p.0 ∷ t) same, ap (λ p. p.1) same)

none_there : (c : Cursor) (t : List ℕ) {r : Option (ℕ × Cursor)} → r ≡ byte_at c t → r ≡ None → t ≡ []
unfolding byte_at
none_there c [] e h = refl
none_there c (a ∷ t) e h = absurd (cc)

module _ (s : List ℕ) (c : Cursor) {r : Option (ℕ × Cursor)} (e : r ≡ byte_at c (rest c s)) where
  -- the bytes from there on: that byte, and those behind it
  first : {b : ℕ} {q : Cursor} → r ≡ Some (b, q) → rest c s ≡ b ∷ rest q s
  first {b} h =
      let at = here c (rest c s) e h in
      at.0 ∙ ap (λ t. b ∷ t) (drop-drop 1 c.at s ∙ ap (λ (p : Cursor). rest p s) at.1)

  -- a flag that is right there is right behind it
  pub barren_behind : {b : ℕ} {q : Cursor} {f : Bool} → r ≡ Some (b, q) → Barren f s c.at → Barren f s q.at
  barren_behind {q = q} {f} h w =
      let z : c.at + 1 ≡ q.at = ap (λ (p : Cursor). p.at) (here c (rest c s) e h).1 in
      barren_stays f s c.at q.at (omega arith) w

  -- ## May a frame end there?

  pub closed_by : {b : ℕ} {q : Cursor} {l : Option Kind} → r ≡ Some (b, q) → l ≡ letter_of b → is_some l ≡ closed (rest c s)
  unfolding closed
  closed_by h letter = ap is_some letter ∙ sym (ap closed (first h))

  pub closed_end : r ≡ None → true ≡ closed (rest c s)
  unfolding closed
  closed_end h = rw (none_there c (rest c s) e h)

  -- ## What stands there

  module _ (d : Shape) where
    module _ {b : ℕ} {q : Cursor} {l : Option Kind} (h : r ≡ Some (b, q)) (letter : l ≡ letter_of b) where
      look_by : look d (rest c s) ≡ begun d l (rest q s)
      unfolding look
      look_by = ap (look d) (first h) ∙ ap (λ m. begun d m (rest q s)) (sym letter)

      -- a trial
      pub sight_kind : {k : Kind} {x : Look} → l ≡ Some k → x ≡ judged k (rest q s) (trial d k (rest q s)) → x ≡ look d (rest c s)
      unfolding begun
      sight_kind k y = y ∙ sym (look_by ∙ ap (λ m. begun d m (rest q s)) k)

      -- a byte that starts no frame
      pub sight_other : {p : RestorePoint} {k : Option ℕ} {x : Look} → l ≡ None → p ≡ point_of q
          → k ≡ ahead (rest (place_of p) s) → x ≡ bare (Passed k) → x ≡ look d (rest c s)
      unfolding begun
      sight_other o point skip y =
          y ∙ ap (λ j. bare (Passed j)) (skip ∙ from_point s q point) ∙ sym (look_by ∙ ap (λ m. begun d m (rest q s)) o)

    pub sight_nothing : {x : Look} → r ≡ None → x ≡ bare Nothing → x ≡ look d (rest c s)
    unfolding look
    sight_nothing h y = y ∙ sym (ap (look d) (none_there c (rest c s) e h))
