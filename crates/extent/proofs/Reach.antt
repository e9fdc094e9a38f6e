-- How far a look reaches: over bytes of the section alone, and over one at least where there is one.
use Prim.Native.Nat.{ℕ, suc, ◌+◌, ◌-◌, ◌<◌, ◌≤◌}
use mathlib.Core.Bool.{Bool, true, false, cond}
use mathlib.Core.List.{List, [], ◌∷◌}
use mathlib.Core.Path.{◌≡◌, refl}
use native.Mathlib.Omega.{arith}
use lib.ListN.{length, drop, get_or, drop_of_length-le, length-drop}
use lib.Seq.{drop-cons}
use Rattle.std.specs.Prelude.{Option, Some, None, unwrap_or}
use Rattle.plan.specs.Plan.{Shape}
use Rattle.reader.specs.declared.Kind.{Kind}
use Rattle.reader.specs.Got.{Got, got, cut, corrupt}
use Rattle.reader.specs.Search.{letter_of, ahead}
use Rattle.reader.proofs.Found.{found_inside}
use Rattle.reader.proofs.Lawful.{Within}
use Rattle.extent.specs.declared.Seen.{Seen}
use Rattle.extent.specs.declared.Seen.TheVariants.{Nothing, Rejected, Accepted}
use Rattle.extent.specs.Extent.{Content, closed, bare, trial, judged, begun, look, span}
use Rattle.extent.proofs.Lawful.{trial_lawful}

-- a search goes no further than the bytes
found_within : (c : List ℕ) → unwrap_or (ahead c) 0 ≤ length c
found_within c = by (ahead c) refl
  where
    by : (o : Option ℕ) → ahead c ≡ o → unwrap_or o 0 ≤ length c
    by None e = omega arith
    by (Some n) e = omega (arith, found_inside c e)

-- over a first byte at least, and over no more than n behind it
abbrev Reaches : ℕ → Seen → Type 0
Reaches n x = (1 ≤ span x) × (span x ≤ 1 + n)

closed_reaches : (t : Bool) (k : Kind) (c : List ℕ) (x : Content) (n : ℕ) → n ≤ length c
    → Reaches (length c) (cond t (record { seen = Accepted x.frame n; raw = x.raw }) (bare (Rejected k (ahead c)))).seen
unfolding span
closed_reaches true k c x n le = omega arith
closed_reaches false k c x n le = omega (arith, found_within c)

judged_reaches : (k : Kind) (c : List ℕ) (g : Got Content) → Within 0 c g → Reaches (length c) (judged k c g).seen
unfolding judged span
judged_reaches k c (got x u) w = closed_reaches (closed (drop u.bytes c)) k c x u.bytes w.1
judged_reaches k c cut w = omega arith
judged_reaches k c corrupt w = omega (arith, found_within c)

begun_reaches : (h : Shape) (c : List ℕ) (l : Option Kind) → Reaches (length c) (begun h l c).seen
unfolding begun span
begun_reaches h c (Some k) = judged_reaches k c (trial h k c) ((trial_lawful h k).within c)
begun_reaches h c None = omega (arith, found_within c)

-- from the first of some bytes on
look_within : (h : Shape) (c : List ℕ) → span (look h c).seen ≤ length c
unfolding look span
look_within h [] = omega arith
look_within h (b ∷ c) = let r = begun_reaches h c (letter_of b) in omega arith

module _ (h : Shape) (s : List ℕ) (p : ℕ) where
  pub look_reaches : p ≤ length s → p + span (look h (drop p s)).seen ≤ length s
  look_reaches le =
      let reach : span (look h (drop p s)).seen ≤ length (drop p s) = look_within h (drop p s) in
      let left : length (drop p s) ≡ length s - p = length-drop p s in
      omega arith

  pub look_nothing : length s ≤ p → look h (drop p s) ≡ bare Nothing
  unfolding look
  look_nothing le = rw (drop_of_length-le s le)

  pub look_something : p < length s → 1 ≤ span (look h (drop p s)).seen
  unfolding look
  look_something lt = rw (drop-cons s p 0 lt) (begun_reaches h (drop (suc p) s) (letter_of (get_or s p 0))).0
