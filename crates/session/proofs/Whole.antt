-- A whole walk to its end: the call that is over is its last.
use Rattle.std.proofs.Common.{Bool, true, false, ◌||◌, List, ℕ, ◌≡◌, refl, sym, ap, ◌∙◌}
use Rattle.plan.specs.declared.Definition.{Definition}
use Rattle.section.specs.declared.Tally.{Tally}
use Rattle.section.specs.declared.Walk.{Walk}
use Rattle.section.specs.Answers.{is_over}
use Rattle.section.specs.Walk.{Outcome, start}
use Rattle.calls.specs.declared.Called.{Called}
use Rattle.calls.specs.Call.{called}
use Rattle.calls.specs.Steps.{Steps}
use Rattle.calls.proofs.Turns.{answer_is, walk_is}
use Rattle.walks.specs.declared.Goal.TheVariants.{End}
use Rattle.walks.specs.Walks.{is_reached, is_last, walked}
use Rattle.walks.proofs.Turns.{Turn}
use Rattle.walks.proofs.Walks.{walk_last}

-- no frame is a walk's end
pub over_alone : {last : Bool} (over : Bool) (t : Tally) → last ≡ over → last ≡ (over || is_reached End t)
unfolding is_reached
over_alone true t e = e
over_alone false t e = e

over_last : (o : Outcome) → is_over o.answer ≡ true → is_last End o ≡ true
unfolding is_last
over_last o e = rw e refl

pub last_counts : (d : Definition) (s : List ℕ) {w : Walk} {barren : Bool} → Turn End d s start w barren → {out after : List ℕ} {r : Called}
    → Steps d w s out r after → is_over r.looked.answer ≡ true → r.looked.walk.tally ≡ (walked End d s start).walk.tally
last_counts d s {w} t st over =
    let last : walked End d s w ≡ called d s w = walk_last End d s w (over_last (called d s w) (ap is_over (sym (answer_is d s st)) ∙ over)) in
    ap (λ w. w.tally) (walk_is d s st) ∙ ap (λ o. o.walk.tally) (sym last ∙ t.same)
