-- Two tallies that are level stay so over one look, whatever it saw: a look moves the place, the ending and every count alike, wherever the section begins.
use Rattle.std.specs.Prelude.{unwrap_or}
use Prim.Native.Nat.{ℕ, ◌+◌, ◌<◌}
use mathlib.Core.Bool.{Bool, true, false, cond}
use mathlib.Core.List.{List, ◌++◌}
use mathlib.Core.Path.{◌≡◌, refl, sym, ap, ◌∙◌}
use native.Mathlib.Decide.{ℕ_discrete}
use native.Mathlib.Omega.{arith}
use lib.Dec.{eqb}
use lib.ListN.{length, drop, get_or, set}
use lib.Seq.{drop-append-add, get_or-set_same, get_or-set_other}
use Rattle.extent.specs.declared.Found.{Found}
use Rattle.extent.specs.declared.Found.TheVariants.{Event, Intra, Inter, Slow}
use Rattle.extent.specs.declared.Seen.{Seen}
use Rattle.extent.specs.declared.Seen.TheVariants.{Nothing, Passed, Rejected, Cutoff, Accepted}
use Rattle.section.specs.declared.Ending.{Ending}
use Rattle.section.specs.declared.Ending.TheVariants.{Going, Done, Out, Cut}
use Rattle.section.specs.declared.Tally.{Tally}
use Rattle.section.specs.Tally.{place_after, ended_by, ending_after, part_of, one_more, counts_after, trials_after, tally_after}
use Rattle.section.proofs.Alike.{is_going}
use Rattle.section.proofs.Stays.{part_below}
use Rattle.resync.specs.Demand3.{Level}
use Rattle.resync.specs.From.{ending_from, SameEnding, AsMuch}

-- ## Places and endings

place_level : (x : Seen) (b b' z p p' : ℕ) → AsMuch b p b' p' → AsMuch b (place_after x (b + z) p) b' (place_after x (b' + z) p')
unfolding place_after
place_level Nothing b b' z p p' far = far
place_level (Passed s) b b' z p p' (n, e, e') = (n + 1 + unwrap_or s 0, omega arith, omega arith)
place_level (Rejected k s) b b' z p p' (n, e, e') = (n + 1 + unwrap_or s 0, omega arith, omega arith)
place_level (Cutoff k) b b' z p p' far = (z, refl, refl)
place_level (Accepted f m) b b' z p p' (n, e, e') = (n + 1 + m, omega arith, omega arith)

-- an accepted frame ends no walk at a place
ended_from : (n : ℕ) (f : Found) → ended_by f ≡ ending_from n (ended_by f)
unfolding ended_by ending_from
ended_from n (Event e) = either (eqb e.code 255)
  where
    either : (t : Bool) → cond t Done Going ≡ ending_from n (cond t Done Going)
    either true = refl
    either false = refl
ended_from n Intra = refl
ended_from n Inter = refl
ended_from n Slow = refl

ending_level : (x : Seen) (b b' p p' : ℕ) → AsMuch b p b' p' → SameEnding b b' (ending_after x p) (ending_after x p')
unfolding ending_after ending_from
ending_level Nothing b b' p p' far = (Out, refl, refl)
ending_level (Passed s) b b' p p' far = (Going, refl, refl)
ending_level (Rejected k s) b b' p p' far = (Going, refl, refl)
ending_level (Cutoff k) b b' p p' (n, e, e') = (Cut k n, ap (Cut k) e, ap (Cut k) e')
ending_level (Accepted f m) b b' p p' far = (ended_by f, ended_from b f, ended_from b' f)

from_going : (n : ℕ) (e : Ending) → is_going (ending_from n e) ≡ is_going e
unfolding ending_from
from_going n Going = refl
from_going n Done = refl
from_going n Out = refl
from_going n (Cut k p) = refl

pub both_going : (b b' : ℕ) (e e' : Ending) → SameEnding b b' e e' → is_going e ≡ is_going e'
both_going b b' e e' (x, here, there) = ap is_going here ∙ from_going b x ∙ sym (from_going b' x) ∙ sym (ap is_going there)

-- the same bytes are ahead
pub ahead_same : (pre pre' c : List ℕ) (p p' : ℕ) → AsMuch (length pre) p (length pre') p' → drop p (pre ++ c) ≡ drop p' (pre' ++ c)
ahead_same pre pre' c p p' (n, e, e') =
    ap (λ q. drop q (pre ++ c)) e ∙ drop-append-add pre c n ∙ sym (drop-append-add pre' c n) ∙ sym (ap (λ q. drop q (pre' ++ c)) e')

-- ## Counts

trials_level : (x : Seen) (a a' t t' : ℕ) → AsMuch a t a' t' → AsMuch a (trials_after x t) a' (trials_after x t')
unfolding trials_after
trials_level Nothing a a' t t' far = far
trials_level (Passed s) a a' t t' far = far
trials_level (Rejected k s) a a' t t' (n, e, e') = (n + 1, omega arith, omega arith)
trials_level (Cutoff k) a a' t t' (n, e, e') = (n + 1, omega arith, omega arith)
trials_level (Accepted f m) a a' t t' (n, e, e') = (n + 1, omega arith, omega arith)

abbrev AllAsMuch : (a x a' x' : List ℕ) → Type 0
AllAsMuch a x a' x' = (i : ℕ) → AsMuch (get_or a i 0) (get_or x i 0) (get_or a' i 0) (get_or x' i 0)

module _ (a x a' x' : List ℕ) (four : length x ≡ 4) (four' : length x' ≡ 4) (far : AllAsMuch a x a' x') where
  more_at : (j i : ℕ) → j < 4 → Dec (i ≡ j) → AsMuch (get_or a i 0) (get_or (one_more x j) i 0) (get_or a' i 0) (get_or (one_more x' j) i 0)
  unfolding one_more
  more_at j i h (yes same) =
      let (n, e, e') = far j in
      let here : get_or (set x j (get_or x j 0 + 1)) j 0 ≡ get_or x j 0 + 1 = get_or-set_same x j _ 0 (omega arith) in
      let there : get_or (set x' j (get_or x' j 0 + 1)) j 0 ≡ get_or x' j 0 + 1 = get_or-set_same x' j _ 0 (omega arith) in
      rw same (n + 1, omega arith, omega arith)
  more_at j i h (no other) = rw (get_or-set_other x j i (get_or x j 0 + 1) 0 other, get_or-set_other x' j i (get_or x' j 0 + 1) 0 other) (far i)

  more_level : (j : ℕ) → j < 4 → AllAsMuch a (one_more x j) a' (one_more x' j)
  more_level j h i = more_at j i h (ℕ_discrete i j)

  counts_level : (y : Seen) → AllAsMuch a (counts_after y x) a' (counts_after y x')
  unfolding counts_after
  counts_level Nothing = far
  counts_level (Passed s) = far
  counts_level (Rejected k s) = more_level 3 (omega arith)
  counts_level (Cutoff k) = far
  counts_level (Accepted f m) = more_level (part_of f) (part_below f)

-- ## Tallies

pub tally_level : (x : Seen) (b b' z : ℕ) (t t' y y' : Tally) → length y.counts ≡ 4 → length y'.counts ≡ 4 → Level b b' t t' y y'
    → Level b b' t t' (tally_after x (b + z) y) (tally_after x (b' + z) y')
unfolding tally_after
tally_level x b b' z t t' y y' four four' l =
    record {
      place = place_level x b b' z y.place y'.place l.place;
      ending = ending_level x b b' y.place y'.place l.place;
      trials = trials_level x t.trials t'.trials y.trials y'.trials l.trials;
      counts = counts_level t.counts y.counts t'.counts y'.counts four four' l.counts x;
    }
