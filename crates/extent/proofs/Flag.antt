-- The flag: where it is right a saved search changes nothing, and once a search has found nothing no later place has anything to find.
use Prim.Native.Nat.{ℕ, ◌+◌, ◌≤◌}
use mathlib.Core.Bool.{Bool, true, false, cond, false≢true}
use mathlib.Core.List.{List, [], ◌∷◌}
use mathlib.Core.Path.{◌≡◌, refl, sym, ap, ◌∙◌}
use native.Mathlib.Omega.{arith}
use lib.ListN.{drop}
use lib.Seq.{drop-drop}
use Rattle.std.specs.Prelude.{Option, Some, None, is_none, unwrap_or}
use Rattle.plan.specs.Plan.{Shape}
use Rattle.reader.specs.declared.Cursor.{Cursor}
use Rattle.reader.specs.declared.Kind.{Kind}
use Rattle.reader.specs.declared.RestorePoint.{RestorePoint}
use Rattle.reader.specs.Got.{Got, got, cut, corrupt}
use Rattle.reader.specs.Place.{point_of, place_of}
use Rattle.reader.specs.Search.{letter_of, ahead}
use Rattle.reader.proofs.Found.{none_later}
use Rattle.extent.specs.declared.Seen.{Seen}
use Rattle.extent.specs.declared.Seen.TheVariants.{Nothing, Passed, Rejected, Cutoff, Accepted}
use Rattle.extent.specs.Extent.{Content, closed, bare, trial, judged, begun, look}
use Rattle.extent.specs.Sight.{Barren}

-- ## A flag that is right changes nothing

-- a search that is saved would have found nothing
pub search_saved : {b : Bool} (s : List ℕ) (p : ℕ) → Barren b s p → b ≡ true → None ≡ ahead (drop p s)
search_saved s p w is = sym (w.none_left is)

-- ## Where a flag is right

pub barren_false : (s : List ℕ) (p : ℕ) → Barren false s p
barren_false s p = record { none_left = λ is. absurd (false≢true is) }

pub barren_stays : (b : Bool) (s : List ℕ) (p q : ℕ) → p ≤ q → Barren b s p → Barren b s q
barren_stays b s p q le w = record { none_left = λ is. none_later s p q le (w.none_left is) }

-- at a point to go back to
pub barren_point : {b : Bool} {s : List ℕ} {c : Cursor} {p : RestorePoint} → p ≡ point_of c → Barren b s c.at → Barren b s (place_of p).at
barren_point e w = rw e w

-- a search says so of the place that it starts from
barren_ahead : (s : List ℕ) (p : ℕ) (k : Option ℕ) → k ≡ ahead (drop p s) → Barren (is_none k) s p
barren_ahead s p k e = record { none_left = λ is. sym e ∙ none_is k is }
  where
    none_is : (k : Option ℕ) → is_none k ≡ true → k ≡ None
    none_is None is = refl
    none_is (Some n) is = absurd (false≢true is)

-- the search of a look, j where it makes none
abbrev skip_in : Seen → Option ℕ → Option ℕ
skip_in Nothing j = j
skip_in (Passed k) j = k
skip_in (Rejected _ k) j = k
skip_in (Cutoff _) j = j
skip_in (Accepted _ _) j = j

closed_skip : (t : Bool) (k : Kind) (c : List ℕ) (x : Content) (n : ℕ)
    → skip_in (cond t (record { seen = Accepted x.frame n; raw = x.raw }) (bare (Rejected k (ahead c)))).seen (ahead c) ≡ ahead c
closed_skip true k c x n = refl
closed_skip false k c x n = refl

judged_skip : (k : Kind) (c : List ℕ) (g : Got Content) → skip_in (judged k c g).seen (ahead c) ≡ ahead c
unfolding judged
judged_skip k c (got x u) = closed_skip (closed (drop u.bytes c)) k c x u.bytes
judged_skip k c cut = refl
judged_skip k c corrupt = refl

begun_skip : (h : Shape) (c : List ℕ) (l : Option Kind) → skip_in (begun h l c).seen (ahead c) ≡ ahead c
unfolding begun
begun_skip h c (Some k) = judged_skip k c (trial h k c)
begun_skip h c None = refl

look_skip : (h : Shape) (c : List ℕ) → skip_in (look h c).seen (ahead (drop 1 c)) ≡ ahead (drop 1 c)
unfolding look
look_skip h [] = refl
look_skip h (b ∷ c) = begun_skip h c (letter_of b)

module _ (h : Shape) (s : List ℕ) (p : ℕ) where
  behind_look : (x : Seen) (k : Option ℕ) → (look h (drop p s)).seen ≡ x → skip_in x (ahead (drop 1 (drop p s))) ≡ k
      → Barren (is_none k) s (p + 1 + unwrap_or k 0)
  behind_look x k e made =
      let search : k ≡ ahead (drop (p + 1) s) =
      sym made ∙ ap (λ y. skip_in y (ahead (drop 1 (drop p s)))) (sym e) ∙ look_skip h (drop p s) ∙ ap ahead (drop-drop 1 p s) in
      barren_stays (is_none k) s (p + 1) (p + 1 + unwrap_or k 0) (omega arith) (barren_ahead s (p + 1) k search)

  pub passed_barren : (k : Option ℕ) → (look h (drop p s)).seen ≡ Passed k → Barren (is_none k) s (p + 1 + unwrap_or k 0)
  passed_barren k e = behind_look (Passed k) k e refl

  pub rejected_barren : (kind : Kind) (k : Option ℕ) → (look h (drop p s)).seen ≡ Rejected kind k → Barren (is_none k) s (p + 1 + unwrap_or k 0)
  rejected_barren kind k e = behind_look (Rejected kind k) k e refl
