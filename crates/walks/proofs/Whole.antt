-- The ways through the public functions: a check, then a whole walk or a refusal.
use Prim.Native.Nat.{ℕ}
use Rattle.std.specs.Prelude.{Err}
use mathlib.Core.Bool.{Bool, true, false}
use mathlib.Core.List.{List, []}
use mathlib.Core.Path.{◌≡◌, sym, ap, ◌∙◌}
use lib.ListN.{length}
use Rattle.plan.specs.declared.Definition.{Definition}
use Rattle.section.specs.declared.Looked.{Looked}
use Rattle.section.specs.declared.Refusal.{Refusal}
use Rattle.section.specs.declared.Refusal.TheVariants.{Unsound}
use Rattle.section.specs.declared.Walk.{Walk}
use Rattle.section.specs.Answers.{Told, told, handed, checked_first}
use Rattle.section.specs.Owes.{CheckOwes, RefusedOwes}
use Rattle.section.specs.Refusals.{Check, pass, admitted, checked}
use Rattle.section.specs.Walk.{start}
use Rattle.section.proofs.Checks.{check_is}
use Rattle.section.proofs.Filling.{sets_none}
use Rattle.walks.specs.declared.Goal.TheVariants.{End, Frame}
use Rattle.plan.specs.declared.Sort.{Sort}
use Rattle.walks.specs.Owes.{ThroughOwes, CountOwes, FillOwes}
use Rattle.walks.specs.Walks.{counts_of, walked, checked_state, through_of, filled_of}

module _ (d : Definition) (s : List ℕ) (w : Walk) where
  -- ## A whole walk from any state

  module _ {t : Bool} (asked : t ≡ admitted d (length s) w) where
    -- a buffer of no places stays one
    pub through_passed : (r : Looked) {after : List ℕ} → told r after ≡ handed (walked End d s w) [] → t ≡ true → ThroughOwes d w s r
    unfolding through_of checked_state checked_first handed
    through_passed r g e =
        let none = ap (λ (x : Told). x.out) g ∙ sets_none 0 (walked End d s w).fields in rw (sym asked ∙ e) (ap (told r) (sym none) ∙ g)

    pub through_refused : (r : Looked) → RefusedOwes Unsound w r → t ≡ false → ThroughOwes d w s r
    unfolding through_of checked_state checked_first
    through_refused r g e = rw (sym asked ∙ e) (g [])

  -- ## From the start, of which a caller has the walk

  module _ (first : w ≡ start) where
    pub count_is : (r : Looked) → ThroughOwes d w s r → CountOwes d s (record { answer = r.answer; tally = r.walk.tally })
    count_is r g = ap counts_of (g ∙ ap (through_of d s) first)

    module _ (of : Sort) (k : ℕ) (out : List ℕ) {v : Check} (verdict : CheckOwes d w (length s) (length out) v) where
      fills : {c : Check} → v ≡ c → checked_first c (walked (Frame of k) d s w) w out ≡ filled_of of k d s out
      unfolding filled_of
      fills e =
          ap (λ x. checked_first x (walked (Frame of k) d s w) w out) (sym e ∙ check_is d w (length s) (length out) verdict)
          ∙ ap (λ x. checked_first (checked d x (length s) (length out)) (walked (Frame of k) d s x) x out) first

      pub fill_refused : (r : Looked) {why : Refusal} → v ≡ Err why → RefusedOwes why w r → FillOwes d s of k out r out
      unfolding checked_first
      fill_refused r e g = g out ∙ fills e

      pub fill_passed : (r : Looked) {after : List ℕ} → v ≡ pass → told r after ≡ handed (walked (Frame of k) d s w) out → FillOwes d s of k out r after
      unfolding checked_first
      fill_passed r passes g = g ∙ fills passes
