-- What is known of an admitted walk and its definition, and what makes one.
use Prim.Native.Nat.{ℕ, zero, suc, ◌+◌, ◌≤◌}
use mathlib.Core.Bool.{true, ◌&&◌, and-eq-true_iff}
use mathlib.Core.Path.{◌≡◌, sym, ◌∙◌}
use native.Mathlib.Omega.{arith}
use lib.Dec.{eqb, leb}
use lib.ListN.{length, get_or, get_or-eq_default}
use borrow.Author.Tests.{eq-eqb, eqb-true, le-leb, leb-true}
use Rattle.plan.specs.declared.Definition.{Definition}
use Rattle.plan.specs.Sound.{sound}
use Rattle.plan.proofs.Sound.{main_fields, slow_fields_law, sound_main_law, sound_slow_law}
use Rattle.history.specs.History as history
use Rattle.extent.specs.declared.Seen.{Seen}
use Rattle.extent.specs.Extent.{span}
use Rattle.section.specs.declared.Tally.{Tally}
use Rattle.section.specs.declared.Walk.{Walk}
use Rattle.section.specs.Fits.{Fits, Rooms}
use Rattle.section.specs.Owes.{CheckOwes}
use Rattle.section.specs.Refusals.{Check, pass, parts_of, tally_sound, admitted, needed, checked}
use Rattle.section.proofs.Checks.{tally_is, admitted_is, passes, check_is}

-- ## The five facts

module _ (z : ℕ) (t : Tally) where
  tally_parts : tally_sound z t ≡ true → (t.place ≤ z) × (t.trials ≤ t.place) × (t.trials ≡ parts_of t)
  unfolding tally_sound
  tally_parts h =
      let p = (and-eq-true_iff (leb t.place z) (leb t.trials t.place && eqb t.trials (parts_of t))).0 h in
      let q = (and-eq-true_iff (leb t.trials t.place) (eqb t.trials (parts_of t))).0 p.1 in
      (leb-true t.place z p.0, leb-true t.trials t.place q.0, eqb-true t.trials (parts_of t) q.1)

module _ (d : Definition) (z : ℕ) (w : Walk) where
  pub admits : w.tally.place ≤ z → w.tally.trials ≤ w.tally.place → w.tally.trials ≡ parts_of w.tally
      → history.sound w.history ≡ true → sound d ≡ true → admitted d z w ≡ true
  admits a b c h g = admitted_is d z w (tally_is z w.tally (le-leb w.tally.place z a) (le-leb w.tally.trials w.tally.place b) (eq-eqb _ _ c)) h g

  module _ (h : admitted d z w ≡ true) where
    parts : (tally_sound z w.tally ≡ true) × (history.sound w.history ≡ true) × (sound d ≡ true)
    unfolding admitted
    parts =
        let p = (and-eq-true_iff (tally_sound z w.tally) (history.sound w.history && sound d)).0 h in
        let q = (and-eq-true_iff (history.sound w.history) (sound d)).0 p.1 in
        (p.0, q.0, q.1)

    pub admitted_place : w.tally.place ≤ z
    admitted_place = (tally_parts z w.tally parts.0).0

    pub admitted_few : w.tally.trials ≤ w.tally.place
    admitted_few = (tally_parts z w.tally parts.0).1

    pub admitted_sum : w.tally.trials ≡ parts_of w.tally
    admitted_sum = (tally_parts z w.tally parts.0).2

    pub admitted_history : history.sound w.history ≡ true
    admitted_history = parts.1

    pub admitted_sound : sound d ≡ true
    admitted_sound = parts.2

-- ## What a look may count on

-- no count is more than the trials, and behind the four there is none
part_few : (t : Tally) → length t.counts ≡ 4 → t.trials ≡ parts_of t → (i : ℕ) → get_or t.counts i 0 ≤ t.trials
unfolding parts_of
part_few t four e zero = omega arith
part_few t four e (suc zero) = omega arith
part_few t four e (suc (suc zero)) = omega arith
part_few t four e (suc (suc (suc zero))) = omega arith
part_few t four e (suc (suc (suc (suc i)))) = omega (arith, get_or-eq_default t.counts 0 {n = suc (suc (suc (suc i)))} (omega arith))

pub admitted_fits : (d : Definition) (z : ℕ) (w : Walk) → admitted d z w ≡ true → (x : Seen) → w.tally.place + span x ≤ z → length w.tally.counts ≡ 4
    → Fits w.tally x z
admitted_fits d z w h x reaches four =
    record { few = admitted_few d z w h; part = λ i. part_few w.tally four (admitted_sum d z w h) i; reaches = reaches }

-- ## Rooms

module _ (d : Definition) where
  pub sound_rooms : {room : ℕ} → sound d ≡ true → needed d ≤ room → Rooms d room
  unfolding needed
  sound_rooms h enough =
      record {
        main = main_fields d.main d.numbers (sound_main_law d h);
        slow = slow_fields_law d.slow d.numbers (sound_slow_law d h);
        main_out = omega arith;
        slow_out = omega arith;
      }

  pub needed_rooms : sound d ≡ true → needed d ≤ 62
  unfolding needed
  needed_rooms h =
      omega (arith, main_fields d.main d.numbers (sound_main_law d h), slow_fields_law d.slow d.numbers (sound_slow_law d h))

-- ## A check that passes

pub checked_pass : (d : Definition) (w : Walk) (z room : ℕ) → checked d w z room ≡ pass → (admitted d z w ≡ true) × Rooms d room
unfolding checked
checked_pass d w z room e =
    let p = passes (admitted d z w) (leb (needed d) room) (needed d) e in
    (p.0, sound_rooms d (admitted_sound d z w p.0) (leb-true (needed d) room p.1))

pub check_passes : (d : Definition) (w : Walk) (z room : ℕ) {v : Check} → CheckOwes d w z room v → v ≡ pass → (admitted d z w ≡ true) × Rooms d room
check_passes d w z room owes pass = checked_pass d w z room (sym (check_is d w z room owes) ∙ pass)
