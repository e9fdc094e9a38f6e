-- The turns of a whole walk in a loop: what is known before each call, how a call that is not the last keeps it, and what the last one hands back.
use Prim.Native.Nat.{ℕ, ◌<◌}
use mathlib.Core.Bool.{Bool, true, false, ◌||◌}
use mathlib.Core.List.{List}
use mathlib.Core.Path.{◌≡◌, refl, sym, ap, ap₂, ◌∙◌}
use lib.ListN.{length}
use Rattle.plan.specs.declared.Definition.{Definition}
use Rattle.section.specs.declared.Looked.{Looked}
use Rattle.section.specs.declared.quick.Light.{Light}
use Rattle.section.specs.declared.quick.Values.{Values}
use Rattle.section.specs.declared.Walk.{Walk}
use Rattle.section.specs.Answers.{told, handed, is_over}
use Rattle.section.specs.Lent.{light_of, values_of, walk_of}
use Rattle.section.specs.Owes.{HandOutOwes}
use Rattle.section.specs.Refusals.{admitted}
use Rattle.calls.specs.declared.Called.{Called}
use Rattle.calls.specs.declared.quick.Stepped.{Stepped}
use Rattle.calls.specs.Call.{left, called}
use Rattle.calls.specs.Lent.{StepsIn}
use Rattle.calls.specs.Steps.{Steps}
use Rattle.calls.proofs.Lent.{ready_light, stepped_out}
use Rattle.calls.proofs.Turns.{Ready, ready_sound, answer_is, walk_is, ready_again, ready_less}
use Rattle.walks.specs.declared.Goal.{Goal}
use Rattle.walks.specs.Walks.{is_reached, is_last, walked}
use Rattle.walks.proofs.Walks.{either_false, walk_last, walk_on}

-- Before a call: what each step wants, and the whole walk from there is the first one's.
pub record Turn (goal : Goal) (d : Definition) (s : List ℕ) (w₀ w : Walk) (barren : Bool) : Type 0 where
  pub ready : Ready d s w barren
  pub same : walked goal d s w ≡ walked goal d s w₀

-- the first call of a walk that is taken apart
pub turn_first : (goal : Goal) (d : Definition) (s : List ℕ) (w : Walk) {l : Light} {v : Values}
    → l ≡ light_of w → v ≡ values_of w → admitted d (length s) w ≡ true → length w.tally.counts ≡ 4
    → Turn goal d s (walk_of l v) (walk_of l v) false
turn_first goal d s w e f h four = record { ready = ready_light d s w e f (record { so = h; four = four }); same = refl }

module _ (goal : Goal) (d : Definition) (s : List ℕ) {w₀ w : Walk} {barren : Bool} (t : Turn goal d s w₀ w barren) {out after : List ℕ} {r : Called}
    (st : Steps d w s out r after) {last : Bool} (asked : last ≡ (is_over r.looked.answer || is_reached goal r.looked.walk.tally)) where
  last_is : last ≡ is_last goal (called d s w)
  unfolding is_last
  last_is = asked ∙ ap₂ (λ a v. is_over a || is_reached goal v.tally) (answer_is d s st) (walk_is d s st)

  module _ (on : last ≡ false) where
    pub turn_again : Turn goal d s w₀ r.looked.walk r.barren
    turn_again =
        record {
          ready = ready_again d s st t.ready;
          same = ap (walked goal d s) (walk_is d s st) ∙ sym (walk_on goal d s w (sym last_is ∙ on)) ∙ t.same;
        }

    pub turn_less : left s r.looked.walk < left s w
    turn_less = ready_less d s st (either_false _ _ (sym asked ∙ on))

-- the last call, handed out, is the whole walk's
pub turn_last : (goal : Goal) (d : Definition) (s : List ℕ) {w₀ w : Walk} → w₀ ≡ w → {l : Light} (v : Values) {barren : Bool}
    → Turn goal d s w₀ (walk_of l v) barren → (x : Stepped) (u : Values) → StepsIn d l s v x u
    → {last : Bool} → last ≡ (is_over x.answer || is_reached goal x.walk.tally) → last ≡ true
    → (out : List ℕ) (r : Looked) {after : List ℕ} → HandOutOwes d (record { answer = x.answer; walk = x.walk }) u out r after
    → told r after ≡ handed (walked goal d s w) out
turn_last goal d s whole {l} v t x u st asked e out r owes =
    let last : walked goal d s (walk_of l v) ≡ called d s (walk_of l v) = walk_last goal d s (walk_of l v) (sym (last_is goal d s t st asked) ∙ e) in
    stepped_out d s v (ready_sound d s t.ready) x u st out r owes ∙ ap (λ o. handed o out) (sym last ∙ t.same ∙ ap (walked goal d s) whole)
