-- The verdict on lists as the code comes by it: too many rounds, or the checks behind that one; and the definition that goes with it.
use Prim.Native.Nat.{ℕ, zero, suc, ◌-◌, ◌<◌, ◌≤◌, min}
use mathlib.Core.Bool.{Bool, true, false, cond, not}
use Rattle.std.specs.Prelude.{None, Some}
use mathlib.Core.Path.{◌≡◌, refl, sym, ap, ap₂, ◌∙◌}
use native.Mathlib.Nat.{sub-zero}
use native.Mathlib.Omega.{arith}
use lib.ListN.{length}
use borrow.Author.Tests.{lt-ltb, le-ltb}
use Rattle.items.specs.Items.{at}
use Rattle.items.specs.Said.{predictor_of, encoding_of, unknown}
use Rattle.plan.specs.declared.Numbers.{Numbers}
use Rattle.plan.specs.declared.Slow.{Slow}
use Rattle.plan.specs.Sound.{unmet_main, unmet_slow}
use Rattle.definition.specs.declared.Refusal.TheVariants.{TooMany}
use Rattle.definition.specs.Checks.{paper_of, Finding, check, ◌or_else◌, unknown_in, unknown_from}
use Rattle.definition.specs.MainLists.{MainItems, rounds, said, in_rounds, in_lengths, main_of, in_needs, judged_main}
use Rattle.definition.specs.Rows.{both}
use Rattle.definition.specs.SlowLists.{SlowItems, slow_rounds, slow_said, equal_counts, slow_of, judged_four, judged_slow}

-- where two together find nothing, neither does
pub else_none : (x y : Finding) → (x or_else y) ≡ None → (x ≡ None) × (y ≡ None)
unfolding ◌or_else◌
else_none None y e = (refl, e)
else_none (Some p) y e = let z : ◌≡◌ {A = ℕ} 0 1 = cc in absurd (omega arith)

-- the first of three, however they are put together
else_else : (x y z : Finding) → (x or_else y or_else z) ≡ ((x or_else y) or_else z)
unfolding ◌or_else◌
else_else None y z = refl
else_else (Some p) y z = refl

-- ## The main lists

module _ (l : MainItems) (numbers : Numbers) {n : ℕ} (is : n ≡ rounds l) where
  pub main_too_many : 64 < n → Some (paper_of (TooMany n)) ≡ judged_main l numbers
  unfolding judged_main ◌or_else◌
  main_too_many lt = rw (sym is, lt-ltb 64 n lt)

  pub main_judged : {f : Finding} → f ≡ (in_rounds l n or_else in_lengths l n or_else in_needs (unmet_main (main_of l n) numbers)) → n ≤ 64
      → f ≡ judged_main l numbers
  unfolding judged_main ◌or_else◌
  main_judged e le = e ∙ rw (sym is, le-ltb 64 n le)

-- ## The slow lists

-- lists 2 and 4 say what 1 and 3 say, so that they are never the first
twice_said : (a b : Bool) (x y z w v : Finding) → cond a x (cond a y (cond b z (cond b w v))) ≡ cond a x (cond b z v)
twice_said true b x y z w v = refl
twice_said false true x y z w v = refl
twice_said false false x y z w v = refl

unknown_both : (l : SlowItems) (k : ℕ) → unknown_in k (said (both l) k) ≡ unknown_in k (slow_said l k)
unfolding unknown_in said both slow_said
unknown_both l k = twice_said (unknown (predictor_of (at l.predictors k))) (unknown (encoding_of (at l.encodings k))) _ _ _ _ _

unknown_slow : (l : SlowItems) (k m : ℕ) → unknown_from (said (both l)) k m ≡ unknown_from (slow_said l) k m
unfolding unknown_from
unknown_slow l k zero = refl
unknown_slow l k (suc m) = ap₂ (λ x y. x or_else y) (unknown_both l k) (unknown_slow l (suc k) m)

min_twice : (a b : ℕ) → min a (min a b) ≡ min a b
min_twice a b = omega arith

rounds_both : (l : SlowItems) → rounds (both l) ≡ slow_rounds l
unfolding rounds both slow_rounds
rounds_both l = rw (min_twice (length l.encodings) (length l.signs), min_twice (length l.predictors) _)

module _ (l : SlowItems) (numbers : Numbers) {n : ℕ} (is : n ≡ rounds (both l)) where
  pub slow_rounds_law : n ≡ slow_rounds l
  slow_rounds_law = is ∙ rounds_both l

  pub slow_too_many : 16 < n → Some (paper_of (TooMany n)) ≡ judged_slow l numbers
  unfolding judged_slow judged_four ◌or_else◌
  slow_too_many lt = rw (sym slow_rounds_law, lt-ltb 16 n lt)

  pub slow_fields_law : {s : Slow} → s ≡ slow_of l n → s ≡ slow_of l (slow_rounds l)
  slow_fields_law e = e ∙ ap (slow_of l) slow_rounds_law

  abbrev lengths : Finding
  lengths = check (not (equal_counts l n)) 6 n

  abbrev needs : Finding
  needs = in_needs (unmet_slow (slow_of l n) numbers)

  pub slow_judged : {f : Finding} → f ≡ (unknown_from (said (both l)) 0 (n - 0) or_else lengths or_else needs) → n ≤ 16 → f ≡ judged_slow l numbers
  unfolding judged_slow judged_four ◌or_else◌
  slow_judged e le =
      e
      ∙ ap (λ x. x or_else lengths or_else needs) (ap (unknown_from (said (both l)) 0) (sub-zero n) ∙ unknown_slow l 0 n)
      ∙ else_else (unknown_from (slow_said l) 0 n) lengths needs
      ∙ rw (sym slow_rounds_law, le-ltb 16 n le)

pub ruleset main_rows = (main_too_many, main_judged)

pub ruleset slow_rows = (slow_too_many, slow_judged, slow_fields_law)
