-- One look by the ways through the code: a walk that goes on, one that has ended, and one that is refused.
use Prim.Native.Nat.{ℕ}
use Rattle.std.specs.Prelude.{Err}
use mathlib.Core.Bool.{true, false}
use mathlib.Core.List.{List}
use mathlib.Core.Path.{◌≡◌, sym, ap, ◌∙◌}
use lib.ListN.{length, drop}
use Rattle.plan.specs.declared.Definition.{Definition}
use Rattle.plan.specs.Plan.{shape}
use Rattle.extent.specs.declared.Look.{Look}
use Rattle.extent.specs.Extent.{look}
use Rattle.extent.specs.Owes.{SightOwes}
use Rattle.extent.proofs.Reach.{look_reaches}
use Rattle.section.specs.declared.Ending.TheVariants.{Going}
use Rattle.section.specs.declared.Refusal.{Refusal}
use Rattle.section.specs.declared.Walk.{Walk}
use Rattle.section.specs.Answers.{Told, handed, refusing, checked_first}
use Rattle.section.specs.Fits.{Fits}
use Rattle.section.specs.Refusals.{Check, pass, admitted}
use Rattle.section.specs.Walk.{Outcome, settled, over, tick}
use Rattle.section.proofs.Admitted.{admitted_place, admitted_fits}
use Rattle.section.proofs.Alike.{is_going}
use Rattle.section.proofs.Stays.{tick_going, over_lasts}

-- ## A look from an admitted walk

module _ (d : Definition) (s : List ℕ) (w : Walk) where
  module _ {l : Look} (sight : SightOwes d s w.tally.place l) where
    pub once_fits : admitted d (length s) w ≡ true → length w.tally.counts ≡ 4 → Fits w.tally l.seen (length s)
    once_fits h four =
        rw sight (admitted_fits d (length s) w h (look (shape d) (drop w.tally.place s)).seen
        (look_reaches (shape d) s w.tally.place (admitted_place d (length s) w h)) four)

    pub once_going : (out : List ℕ) {r : Told} → w.tally.ending ≡ Going → r ≡ handed (settled d l (length s) w) out → r ≡ handed (tick d s w) out
    once_going out going tells = tells ∙ ap (λ l. handed (settled d l (length s) w) out) sight ∙ sym (ap (λ o. handed o out) (tick_going d s w going))

  pub once_over : (out : List ℕ) {r : Told} → is_going w.tally.ending ≡ false → r ≡ handed (over w) out → r ≡ handed (tick d s w) out
  once_over out ended tells = tells ∙ sym (ap (λ o. handed o out) (over_lasts d s w ended))

-- ## Behind a check

module _ (o : Outcome) (w : Walk) (out : List ℕ) {v c : Check} {r : Told} (verdict : v ≡ c) where
  pub first_passes : v ≡ pass → r ≡ handed o out → r ≡ checked_first c o w out
  unfolding checked_first
  first_passes e tells = tells ∙ ap (λ k. checked_first k o w out) (sym e ∙ verdict)

  pub first_refused : {why : Refusal} → v ≡ Err why → r ≡ refusing why w out → r ≡ checked_first c o w out
  unfolding checked_first
  first_refused e tells = tells ∙ ap (λ k. checked_first k o w out) (sym e ∙ verdict)
