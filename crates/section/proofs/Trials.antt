-- The trials that an answer reports: no more than the section's bytes, and the sum of their parts in the walk behind it; a refusal reports none.
use Prim.Native.Nat.{ℕ, ◌≤◌}
use Rattle.std.specs.Prelude.{Ok, Err}
use mathlib.Core.Bool.{Bool, true, false, true≢false}
use mathlib.Core.List.{List}
use mathlib.Core.Path.{◌≡◌, refl, sym, ap, ◌∙◌}
use native.Mathlib.Omega.{arith}
use lib.ListN.{length}
use Rattle.plan.specs.declared.Definition.{Definition}
use Rattle.section.specs.declared.Answer.{Answer}
use Rattle.section.specs.declared.Answer.TheVariants as answer
use Rattle.section.specs.declared.Looked.{Looked}
use Rattle.section.specs.declared.Walk.{Walk}
use Rattle.section.specs.Answers.{Told, told, handed, refusing, checked_first}
use Rattle.section.specs.Owes.{LookOwes}
use Rattle.section.specs.Refusals.{Check, pass, admitted, checked, parts_of}
use Rattle.section.specs.Walk.{Outcome, tick}
use Rattle.section.proofs.Admitted.{admitted_place, admitted_few, admitted_sum, checked_pass}
use Rattle.section.proofs.Paper.{paper_injective}
use Rattle.section.proofs.Stays.{tick_admitted}

unfoldable pub is_refused : Answer → Bool
is_refused answer.Passed = false
is_refused (answer.Rejected k p) = false
is_refused (answer.Event x) = false
is_refused (answer.Intra x) = false
is_refused (answer.Inter x) = false
is_refused (answer.Slow x) = false
is_refused (answer.Over e) = false
is_refused (answer.Refused why) = true

-- ## Behind a check that passes for admitted walks alone

module _ (d : Definition) (z : ℕ) (o : Outcome) (w : Walk) (out : List ℕ) (r : Looked) {after : List ℕ} where
  pub first_trials : (c : Check) → (c ≡ pass → admitted d z o.walk ≡ true) → told r after ≡ checked_first c o w out → r.trials ≤ z
  unfolding checked_first handed refusing
  first_trials (Ok u) so e =
      let same : r.trials ≡ o.walk.tally.trials = ap (λ (x : Told). x.trials) e in
      omega (arith, admitted_few d z o.walk (so refl), admitted_place d z o.walk (so refl))
  first_trials (Err why) so e = let none : r.trials ≡ 0 = ap (λ (x : Told). x.trials) e in omega arith

  pub first_parts : (c : Check) → (c ≡ pass → admitted d z o.walk ≡ true) → told r after ≡ checked_first c o w out → is_refused r.answer ≡ false
      → r.trials ≡ parts_of r.walk.tally
  unfolding checked_first handed refusing is_refused
  first_parts (Ok u) so e Told-more =
      ap (λ (x : Told). x.trials) e ∙ admitted_sum d z o.walk (so refl) ∙ sym (ap (λ (x : Told). parts_of x.walk.tally) e)
  first_parts (Err why) so e Told-more =
      let says = paper_injective r.answer (answer.Refused why) (ap (λ (x : Told). x.said) e) in absurd (true≢false (sym (ap is_refused says) ∙ Told-more))

-- ## A look

module _ (d : Definition) (w : Walk) (s out : List ℕ) (r : Looked) {after : List ℕ}
    (owes : LookOwes d w s out r after) (four : length w.tally.counts ≡ 4) where
  stays : checked d w (length s) (length out) ≡ pass → admitted d (length s) (tick d s w).walk ≡ true
  stays e = tick_admitted d s w (checked_pass d w (length s) (length out) e).0 four

  pub look_trials : r.trials ≤ length s
  look_trials = first_trials d (length s) (tick d s w) w out r (checked d w (length s) (length out)) stays owes

  pub look_parts : is_refused r.answer ≡ false → r.trials ≡ parts_of r.walk.tally
  look_parts = first_parts d (length s) (tick d s w) w out r (checked d w (length s) (length out)) stays owes
