-- The checks by the ways through the code: what is tested first decides.
use Prim.Native.Nat.{ℕ, ◌≤◌, ◌<◌}
use Rattle.std.specs.Prelude.{None, Some, Err}
use mathlib.Core.Bool.{Bool, true, false, not, cond, ◌&&◌}
use mathlib.Core.Path.{◌≡◌, refl, sym, ◌∙◌}
use native.Mathlib.Omega.{arith}
use lib.Dec.{eqb, leb}
use borrow.Author.Tests.{le-leb, lt-leb, leb-true, not-true, not-false}
use Rattle.plan.specs.declared.Definition.{Definition}
use Rattle.plan.specs.Sound.{sound}
use Rattle.history.specs.History as history
use Rattle.section.specs.declared.Refusal.TheVariants.{Unsound, TooShort}
use Rattle.section.specs.declared.Tally.{Tally}
use Rattle.section.specs.declared.Walk.{Walk}
use Rattle.section.specs.Answers.{refusal, paper_of, found, refusal_for}
use Rattle.section.specs.Owes.{CheckOwes}
use Rattle.section.specs.Refusals.{Check, pass, parts_of, tally_sound, admitted, needed, checked}
use Rattle.section.proofs.Paper.{found_injective}

-- ## The tally

module _ (z : ℕ) (t : Tally) where
  pub tally_is : {a b c : Bool} → leb t.place z ≡ a → leb t.trials t.place ≡ b → eqb t.trials (parts_of t) ≡ c → tally_sound z t ≡ (a && (b && c))
  unfolding tally_sound
  tally_is p q r = rw (p, q, r)

-- ## Refusal 10

module _ (d : Definition) (z : ℕ) (w : Walk) where
  pub admitted_is : {a b c : Bool} → tally_sound z w.tally ≡ a → history.sound w.history ≡ b → sound d ≡ c → admitted d z w ≡ (a && (b && c))
  unfolding admitted
  admitted_is p q r = rw (p, q, r)

-- ## Both refusals, for a buffer that has to have so many places

-- the verdict, by whether the walk is admitted and the buffer long enough
abbrev pub verdict : (a b : Bool) → (least : ℕ) → Check
verdict a b n = cond a (cond b pass (Err (TooShort n))) (Err Unsound)

pub passes : (a b : Bool) (n : ℕ) → verdict a b n ≡ pass → (a ≡ true) × (b ≡ true)
passes true true n e = (refl, refl)
passes true false n e = let z : ◌≡◌ {A = ℕ} 0 1 = cc in absurd (omega arith)
passes false b n e = let z : ◌≡◌ {A = ℕ} 0 1 = cc in absurd (omega arith)

says : (a b : Bool) (n : ℕ) → found (verdict a b n) ≡ cond a (cond b None (Some (refusal 11 n))) (Some (refusal 10 0))
unfolding found paper_of
says true true n = refl
says true false n = refl
says false b n = refl

module _ (d : Definition) (w : Walk) (z room least : ℕ) where
  refusal_is : {a b : Bool} {n : ℕ} → admitted d z w ≡ a → least ≡ n → leb n room ≡ b → found (verdict a b n) ≡ refusal_for least d w z room
  unfolding refusal_for
  refusal_is {a} {b} {n} p e q = says a b n ∙ rw (p, e, q)

  module _ {a : Bool} (admits : a ≡ admitted d z w) where
    pub refusal_unsound : not a ≡ true → found (Err Unsound) ≡ refusal_for least d w z room
    refusal_unsound p = refusal_is (sym admits ∙ not-true a p) refl refl

    module _ {n : ℕ} (long : n ≡ least) (p : not a ≡ false) where
      pub refusal_short : room < n → found (Err (TooShort n)) ≡ refusal_for least d w z room
      refusal_short h = refusal_is (sym admits ∙ not-false a p) (sym long) (lt-leb n room h)

      pub refusal_none : n ≤ room → found pass ≡ refusal_for least d w z room
      refusal_none h = refusal_is (sym admits ∙ not-false a p) (sym long) (le-leb n room h)

  pub refusal_verdict : {r : Check} → found r ≡ refusal_for least d w z room → r ≡ verdict (admitted d z w) (leb least room) least
  refusal_verdict {r} e = found_injective r _ (e ∙ sym (refusal_is refl refl refl))

  pub refusal_passes : {r : Check} → found r ≡ refusal_for least d w z room → r ≡ pass → (admitted d z w ≡ true) × (least ≤ room)
  refusal_passes e pass =
      let p = passes (admitted d z w) (leb least room) least (sym (refusal_verdict e) ∙ pass) in (p.0, leb-true least room p.1)

pub check_is : (d : Definition) (w : Walk) (z room : ℕ) {r : Check} → CheckOwes d w z room r → r ≡ checked d w z room
unfolding checked
check_is d w z room owes = refusal_verdict d w z room (needed d) owes
