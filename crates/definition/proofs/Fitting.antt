-- Every refusal of a log is a number of one byte, and so is its round: more than 64 items are refused before a round is looked at.
use Prim.Native.Nat.{ℕ, zero, suc, ◌+◌, ◌-◌, ◌<◌, ◌≤◌}
use mathlib.Core.Bool.{Bool, true, false}
use mathlib.Core.List.{List, [], ◌∷◌}
use Rattle.std.specs.Prelude.{Option, None, Some, Err}
use mathlib.Core.Path.{◌≡◌, refl, sym, ap, ◌∙◌, subst}
use native.Mathlib.Omega.{arith}
use lib.Dec.{ltb}
use borrow.Author.Tests.{ltb-false}
use Rattle.bits.proofs.Laws.{by_test}
use Rattle.items.specs.declared.Lists.{Lists}
use Rattle.items.specs.declared.MainLists.{MainLists}
use Rattle.items.specs.declared.SlowLists.{SlowLists}
use Rattle.items.specs.Said.{unknown}
use Rattle.plan.specs.declared.Settings.{Settings}
use Rattle.plan.specs.declared.Numbers.{Numbers}
use Rattle.definition.specs.declared.Defined.{Defined}
use Rattle.definition.specs.declared.Paper.{Paper}
use Rattle.definition.specs.declared.Refusal.{Refusal}
use Rattle.definition.specs.Checks.{paper_of, Finding, found, check, ◌or_else◌, unknown_in, unknown_from}
use Rattle.definition.specs.Defined.{Answer, told, main_absent, slow_absent, main_finding, no_slow_lists, slow_finding, in_interval, judged, defined}
use Rattle.definition.specs.MainLists.{MainItems, rounds, in_rounds, lengths, in_lengths, in_needs, judged_main}
use Rattle.definition.specs.SlowLists.{SlowItems, slow_rounds, judged_four, judged_slow}

abbrev Fits : Finding → Type 0
Fits None = Unit
Fits (Some p) = (p.number < 256) × (p.round < 255)

-- ## One check after another

fits_else : (a b : Finding) → Fits a → Fits b → Fits (a or_else b)
unfolding ◌or_else◌
fits_else None b f g = g
fits_else (Some p) b f g = f

fits_check : (t : Bool) (number place : ℕ) → number < 256 → Fits (check t number place)
fits_check true number place h = (h, omega arith)
fits_check false number place h = tt

-- what stands behind a check is looked at where that does not apply
fits_behind : (t : Bool) (number place : ℕ) (rest : Finding) → number < 256 → (t ≡ false → Fits rest) → Fits (check t number place or_else rest)
unfolding ◌or_else◌
fits_behind true number place rest h f = (h, omega arith)
fits_behind false number place rest h f = f refl

-- ## Check 3

fits_in : (k : ℕ) (ls : List (ℕ × Option ℕ)) → k < 64 → Fits (unknown_in k ls)
unfolding unknown_in
fits_in k [] h = tt
fits_in k (l ∷ ls) h = by_test Fits (unknown l.1) (λ _. (omega arith, omega arith)) (λ _. fits_in k ls h)

fits_from : (said : ℕ → List (ℕ × Option ℕ)) (k m : ℕ) → k + m ≤ 64 → Fits (unknown_from said k m)
unfolding unknown_from
fits_from said k zero h = tt
fits_from said k (suc m) h = fits_else _ _ (fits_in k (said k) (omega arith)) (fits_from said (suc k) m (omega arith))

-- ## All checks

fits_rounds : (l : MainItems) (n : ℕ) → n ≤ 64 → Fits (in_rounds l n)
unfolding in_rounds
fits_rounds l n h =
    fits_else _ _ (fits_in 0 _ (omega arith))
    (fits_else _ _ (fits_check _ 4 0 (omega arith))
    (fits_else _ _ (fits_check _ 5 1 (omega arith))
    (fits_else _ _ (fits_in 1 _ (omega arith))
    (fits_else _ _ (fits_check _ 5 1 (omega arith)) (fits_from _ 2 (n - 2) (omega arith))))))

fits_lengths : (l : MainItems) (n : ℕ) → Fits (in_lengths l n)
unfolding in_lengths lengths
fits_lengths l n = fits_else _ _ (fits_check _ 6 n (omega arith)) (fits_check _ 7 n (omega arith))

fits_needs : (x : Option ℕ) → Fits (in_needs x)
unfolding in_needs
fits_needs None = tt
fits_needs (Some field) = (omega arith, omega arith)

fits_main : (l : MainItems) (numbers : Numbers) → Fits (judged_main l numbers)
unfolding judged_main
fits_main l numbers =
    fits_behind (ltb 64 (rounds l)) 2 (rounds l) _ (omega arith)
    (λ t.
    fits_else _ _ (fits_rounds l (rounds l) (ltb-false 64 (rounds l) t)) (fits_else _ _ (fits_lengths l (rounds l)) (fits_needs _)))

fits_four : (l : SlowItems) → Fits (judged_four 16 l)
unfolding judged_four
fits_four l =
    fits_behind (ltb 16 (slow_rounds l)) 2 (slow_rounds l) _ (omega arith)
    (λ t.
    let few = ltb-false 16 (slow_rounds l) t in
    fits_else _ _ (fits_from _ 0 (slow_rounds l) (omega arith)) (fits_check _ 6 (slow_rounds l) (omega arith)))

fits_slow : (l : SlowItems) (numbers : Numbers) → Fits (judged_slow l numbers)
unfolding judged_slow
fits_slow l numbers = fits_else _ _ (fits_four l) (fits_needs _)

module _ (text : List ℕ) where
  fits_main_absent : (l : MainLists) → Fits (main_absent text l)
  unfolding main_absent
  fits_main_absent l =
      fits_else _ _ (fits_check _ 1 0 (omega arith))
      (fits_else _ _ (fits_check _ 1 1 (omega arith))
      (fits_else _ _ (fits_check _ 1 2 (omega arith))
      (fits_else _ _ (fits_check _ 1 3 (omega arith)) (fits_else _ _ (fits_check _ 1 4 (omega arith)) (fits_check _ 1 5 (omega arith))))))

  fits_slow_absent : (l : SlowLists) → Fits (slow_absent text l)
  unfolding slow_absent
  fits_slow_absent l =
      fits_else _ _ (fits_check _ 1 0 (omega arith))
      (fits_else _ _ (fits_check _ 1 1 (omega arith)) (fits_else _ _ (fits_check _ 1 3 (omega arith)) (fits_check _ 1 5 (omega arith))))

  fits_judged : (l : Lists) (numbers : Numbers) (settings : Settings) → Fits (judged text l numbers settings)
  unfolding judged main_finding slow_finding in_interval
  fits_judged l numbers settings =
      fits_else _ _ (fits_else _ _ (fits_main_absent l.main) (fits_main _ numbers))
      (fits_else _ _ (by_test Fits (no_slow_lists l.slow) (λ _. tt) (λ _. fits_else _ _ (fits_slow_absent l.slow) (fits_slow _ numbers)))
      (fits_check _ 9 0 (omega arith)))

  -- of what a call handed out
  pub refusal_fits : (l : Lists) (numbers : Numbers) (settings : Settings) (d : Defined) {why : Refusal} {p : Paper} →
      told d ≡ defined text l numbers settings → d.verdict ≡ Err why → p ≡ paper_of why → (p.number < 256) × (p.round < 255)
  unfolding defined
  refusal_fits l numbers settings d is v says =
      let says-so = sym (ap found v) ∙ ap (λ (x : Answer). x.finding) is in
      rw says (subst Fits (sym says-so) (fits_judged l numbers settings))
