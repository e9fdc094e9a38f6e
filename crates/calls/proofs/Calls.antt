-- Laws of one call: it answers something; an admitted walk stays admitted and does not go back; a call that is not over goes on by a byte or more,
-- and one behind the section's last byte is over, so that calls come to an end; a walk that has ended stays as it is.
use Prim.Native.Nat.{ℕ, ◌<◌, ◌≤◌}
use Rattle.std.specs.Prelude.{Ok, Err}
use mathlib.Core.Bool.{Bool, true, false, true≢false}
use mathlib.Core.List.{List}
use mathlib.Core.Path.{◌≡◌, refl, sym, ap, ◌∙◌}
use native.Mathlib.Omega.{arith}
use lib.Dec.{ltb}
use lib.ListN.{length}
use borrow.Author.Tests.{ltb-true, ltb-false}
use Rattle.plan.specs.declared.Definition.{Definition}
use Rattle.section.specs.declared.Answer.TheVariants.{Refused}
use Rattle.section.specs.declared.Looked.{Looked}
use Rattle.section.specs.declared.Walk.{Walk}
use Rattle.section.specs.Answers.{Told, checked_first, handed, is_over, refusing, told}
use Rattle.section.specs.Refusals.{Check, admitted, checked}
use Rattle.section.specs.Walk.{over, tick}
use Rattle.section.proofs.Alike.{is_going}
use Rattle.section.proofs.Paper.{paper_injective}
use Rattle.section.proofs.Stays.{over_lasts, tick_admitted, tick_counts}
use Rattle.calls.specs.Call.{says, is_said, left, called}
use Rattle.calls.specs.Owes.{CallOwes}
use Rattle.calls.proofs.Until.{until_keeps, until_by, until_is_last}
use Rattle.calls.proofs.Ticks.{over_is_over, over_says, look_moves, look_place, look_end, tick_moves, tick_end, call_says}

-- ## What a call answers

module _ (d : Definition) (s : List ℕ) (w : Walk) where
  pub called_says : says (called d s w).answer ≡ true
  unfolding called
  called_says = until_is_last (tick d s) is_said (length s) (tick_moves d s) (tick_end d s) w

  pub called_ended : is_going w.tally.ending ≡ false → called d s w ≡ over w
  called_ended e =
      let same : tick d s w ≡ over w = over_lasts d s w e in
      call_says d s w (ap (λ o. says o.answer) same ∙ over_says (over w).answer (over_is_over w)) ∙ same

  pub called_end : length s ≤ w.tally.place → is_over (called d s w).answer ≡ true
  called_end h = let e : is_over (tick d s w).answer ≡ true = look_end d s w h in rw (call_says d s w (over_says (tick d s w).answer e)) e

-- ## Where it leaves the walk

module _ (d : Definition) (s : List ℕ) (w : Walk) where
  pub called_place : w.tally.place ≤ (called d s w).walk.tally.place
  unfolding called
  called_place =
      until_keeps (tick d s) is_said (λ v. w.tally.place ≤ v.tally.place) (λ v far. omega (arith, look_place d s v)) (left s w) w (omega arith)

  pub called_moves : is_over (called d s w).answer ≡ false → w.tally.place < (called d s w).walk.tally.place
  unfolding called
  called_moves =
      until_by (tick d s) is_said (length s) (tick_moves d s) (tick_end d s)
      (λ v. w.tally.place ≤ v.tally.place) (λ o. is_over o.answer ≡ false → w.tally.place < o.walk.tally.place)
      (λ v far e. omega (arith, tick_moves d s v e)) (λ v far e going. omega (arith, look_moves d s v going)) w (omega arith)

  pub called_counts : length (called d s w).walk.tally.counts ≡ length w.tally.counts
  unfolding called
  called_counts =
      until_keeps (tick d s) is_said (λ v. length v.tally.counts ≡ length w.tally.counts) (λ v same. tick_counts d s v ∙ same) (left s w) w refl

  pub called_admitted : admitted d (length s) w ≡ true → length w.tally.counts ≡ 4 → admitted d (length s) (called d s w).walk ≡ true
  unfolding called
  called_admitted h four =
      (until_keeps (tick d s) is_said (λ v. (admitted d (length s) v ≡ true) × (length v.tally.counts ≡ 4))
      (λ v so. (tick_admitted d s v so.0 so.1, tick_counts d s v ∙ so.1)) (left s w) w (h, four)).0

-- ## A call that is not over leaves fewer bytes

module _ (d : Definition) (s : List ℕ) (w : Walk) (going : is_over (called d s w).answer ≡ false) where
  inside : (t : Bool) → ltb w.tally.place (length s) ≡ t → w.tally.place < length s
  inside true e = ltb-true w.tally.place (length s) e
  inside false e = absurd (true≢false (sym (called_end d s w (ltb-false w.tally.place (length s) e)) ∙ going))

  pub called_less : left s (called d s w).walk < left s w
  called_less = omega (arith, called_moves d s w going, inside (ltb w.tally.place (length s)) refl)

-- the same of every answer that the promise admits
pub call_goes_on : (d : Definition) (w : Walk) (s out : List ℕ) (r : Looked) {after : List ℕ} → CallOwes d w s out r after → is_over r.answer ≡ false
    → left s r.walk < left s w
unfolding handed refusing checked_first is_over
call_goes_on d w s out r {after} owes going = by_check (checked d w (length s) (length out)) owes
  where
    by_check : (c : Check) → told r after ≡ checked_first c (called d s w) w out → left s r.walk < left s w
    by_check (Ok u) e =
        let answer = paper_injective r.answer (called d s w).answer (ap (λ (x : Told). x.said) e) in
        rw (ap (λ (x : Told). x.walk) e) (called_less d s w (sym (ap is_over answer) ∙ going))
    by_check (Err why) e =
        let answer = paper_injective r.answer (Refused why) (ap (λ (x : Told). x.said) e) in absurd (true≢false (sym (ap is_over answer) ∙ going))
