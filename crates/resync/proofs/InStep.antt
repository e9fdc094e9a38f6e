-- Two walks that stand before the same bytes go in step, look by look and so call by call:
-- they stay level, and what they show and what later frames read is as `Both` says.
use Prim.Native.Nat.{ℕ, zero, suc, ◌+◌}
use mathlib.Core.Bool.{Bool, true, false, cond, true≢false}
use mathlib.Core.List.{List, ◌++◌}
use mathlib.Core.Path.{◌≡◌, refl, sym, ap, ◌∙◌}
use native.Mathlib.Omega.{arith}
use lib.ListN.{length, length-append}
use Rattle.plan.specs.declared.Definition.{Definition}
use Rattle.frame.specs.Past.{Past}
use Rattle.extent.specs.declared.Look.{Look}
use Rattle.section.specs.declared.Tally.{Tally}
use Rattle.section.specs.declared.Walk.{Walk}
use Rattle.section.specs.Walk.{Outcome, settled, over, tick}
use Rattle.section.proofs.Alike.{looks_alike}
use Rattle.section.proofs.Stays.{after_counts}
use Rattle.calls.specs.Call.{until, says, is_said, left, called}
use Rattle.resync.specs.Demand3.{Level}
use Rattle.resync.specs.From.{answer_from}
use Rattle.resync.specs.Runs.{Shown}
use Rattle.resync.proofs.Answers.{from_says}
use Rattle.resync.proofs.Both.{Both, other, intra, inter, BothOf, past_in, settled_both, over_both}
use Rattle.resync.proofs.Level.{both_going, ahead_same, tally_level}

module _ (d : Definition) (b b' : ℕ) {g g' : Past} {e e' : Shown} {h h' : Past} where
  both_say : Both d b b' g g' e e' h h' → says e.answer ≡ says e'.answer
  unfolding says answer_from
  both_say (other o) =
      let (x, here, there) = o.same in
      ap (λ (s : Shown). says s.answer) here ∙ from_says b x.answer ∙ sym (from_says b' x.answer) ∙ sym (ap (λ (s : Shown). says s.answer) there)
  both_say (intra m) = ap (λ (s : Shown). says s.answer) m.shows ∙ sym (ap (λ (s : Shown). says s.answer) m.shows')
  both_say (inter m) = ap (λ (s : Shown). says s.answer) m.shows ∙ sym (ap (λ (s : Shown). says s.answer) m.shows')

  -- a look in vain leaves both pasts as they are
  vain_keeps : Both d b b' g g' e e' h h' → says e.answer ≡ false → (h ≡ g) × (h' ≡ g')
  unfolding says answer_from
  vain_keeps (other o) vain = (o.keeps, o.keeps')
  vain_keeps (intra m) vain = absurd (true≢false (sym (ap (λ (s : Shown). says s.answer) m.shows) ∙ vain))
  vain_keeps (inter m) vain = absurd (true≢false (sym (ap (λ (s : Shown). says s.answer) m.shows) ∙ vain))

module _ (d : Definition) (pre pre' c : List ℕ) (t t' : Tally) where
  abbrev s : List ℕ
  s = pre ++ c

  abbrev s' : List ℕ
  s' = pre' ++ c

  -- two walks that stand before the same bytes, with four counts each
  pub record Abreast (v w : Walk) : Type 0 where
    pub level : Level (length pre) (length pre') t t' v.tally w.tally
    pub four : length v.tally.counts ≡ 4
    pub four' : length w.tally.counts ≡ 4

  -- what two steps come to, from walks with these pasts
  pub record Come (g g' : Past) (o o' : Outcome) : Type 0 where
    pub abreast : Abreast o.walk o'.walk
    pub both : BothOf d (length pre) (length pre') g g' o o'

  abbrev pub InStep : (step step' : Walk → Outcome) → Type 0
  InStep step step' = (v w : Walk) → Abreast v w → Come (past_in v) (past_in w) (step v) (step' w)

  -- ## A look

  settled_come : (v w : Walk) → Abreast v w → (l : Look) → Come (past_in v) (past_in w) (settled d l (length s) v) (settled d l (length s') w)
  unfolding settled
  settled_come v w a l =
      rw (length-append pre c, length-append pre' c) (record {
        abreast = record {
          level = tally_level l.seen (length pre) (length pre') (length c) t t' v.tally w.tally a.four a.four' a.level;
          four = after_counts l.seen _ v.tally ∙ a.four;
          four' = after_counts l.seen _ w.tally ∙ a.four';
        };
        both = settled_both d (length pre) (length pre') l (length pre + length c) (length pre' + length c) v w a.level.place;
      })

  over_come : (v w : Walk) → Abreast v w → Come (past_in v) (past_in w) (over v) (over w)
  unfolding over
  over_come v w a = record { abreast = a; both = over_both d (length pre) (length pre') v w a.level.ending }

  pub looks_in_step : InStep (tick d s) (tick d s')
  looks_in_step v w a =
      looks_alike d s s' v w (Come (past_in v) (past_in w)) (over_come v w a) (settled_come v w a)
      (both_going (length pre) (length pre') v.tally.ending w.tally.ending a.level.ending)
      (ahead_same pre pre' c v.tally.place w.tally.place a.level.place)

  -- ## A call

  -- looks from v and w on, behind looks in vain from walks with the pasts g and g'
  module _ (step step' : Walk → Outcome) (in_step : InStep step step') where
    until_come : (n : ℕ) (g g' : Past) (v w : Walk) → Abreast v w → past_in v ≡ g → past_in w ≡ g'
        → Come g g' (until step is_said n v) (until step' is_said n w)
    unfolding until
    until_come zero g g' v w a e e' = rw (← e, ← e') (in_step v w a)
    until_come (suc n) g g' v w a e e' =
        let k : Come g g' (step v) (step' w) = rw (← e, ← e') (in_step v w a) in
        by_said (is_said (step v)) (is_said (step' w)) refl (both_say d (length pre) (length pre') k.both) k
        (λ vain.
        let kept = vain_keeps d (length pre) (length pre') k.both vain in
        until_come n g g' (step v).walk (step' w).walk k.abreast kept.0 kept.1)
      where
        by_said : (q q' : Bool) {o o' u u' : Outcome} → is_said (step v) ≡ q → q ≡ q' → Come g g' o o'
            → (is_said (step v) ≡ false → Come g g' u u') → Come g g' (cond q o u) (cond q' o' u')
        by_said true true is same here on = here
        by_said true false is same here on = absurd (true≢false same)
        by_said false true is same here on = absurd (true≢false (sym same))
        by_said false false is same here on = on is

  -- as many bytes are left to both
  both_left : (v w : Walk) → Abreast v w → left s v ≡ left s' w
  both_left v w a = let (n, here, there) = a.level.place in omega (arith, length-append pre c, length-append pre' c)

  pub calls_in_step : InStep (called d s) (called d s')
  unfolding called
  calls_in_step v w a = rw (both_left v w a) (until_come (tick d s) (tick d s') looks_in_step (left s' w) (past_in v) (past_in w) v w a refl refl)
