-- The length that the refusal of a check names, no more than what is needed of an admitted walk.
use Prim.Native.Nat.{ℕ, ◌≤◌}
use mathlib.Core.Bool.{Bool, true, false, cond}
use mathlib.Core.Path.{◌≡◌, refl, sym, ap, ◌∙◌}
use native.Mathlib.Omega.{arith}
use lib.Dec.{leb}
use Rattle.plan.specs.declared.Definition.{Definition}
use Rattle.std.specs.Prelude.{Ok, Err}
use Rattle.section.specs.Refusals.{Check, pass}
use Rattle.section.specs.declared.Refusal.{Refusal}
use Rattle.section.specs.declared.Refusal.TheVariants.{Unsound, TooShort}
use Rattle.section.specs.declared.Walk.{Walk}
use Rattle.section.specs.Refusals.{admitted, needed, checked}
use Rattle.section.specs.Owes.{CheckOwes}
use Rattle.section.specs.Walk.{start}
use Rattle.section.proofs.Checks.{check_is}
use Rattle.section.proofs.Admitted.{admitted_sound, needed_rooms}
use Rattle.dulimasca.specs.Told.{needed_by, in_bytes}

needed_in : Check → ℕ
needed_in (Ok u) = 0
needed_in (Err why) = needed_by why

abbrev verdict : (a b : Bool) → ℕ → Check
verdict a b n = cond a (cond b pass (Err (TooShort n))) (Err Unsound)

within : (a b : Bool) {n m : ℕ} → (a ≡ true → n ≤ m) → needed_in (verdict a b n) ≤ m
unfolding needed_in needed_by
within true true h = omega arith
within true false h = h refl
within false b h = omega arith

named_few : (a b : Bool) {n m : ℕ} {why : Refusal} → Err why ≡ verdict a b n → (a ≡ true → n ≤ m) → needed_by why ≤ m
unfolding needed_in
named_few a b {n} {m} e h = rw (ap needed_in e) (within a b h)

-- ## A frame's values

pub values_named : (d : Definition) (w : Walk) (z room : ℕ) {v : Check} {why : Refusal} → v ≡ checked d w z room → v ≡ Err why → needed_by why ≤ 62
unfolding checked
values_named d w z room verdict is = named_few (admitted d z w) (leb (needed d) room) (sym is ∙ verdict) (λ a. needed_rooms d (admitted_sound d z w a))

-- the same check, its length in bytes
pub same_in_bytes : (d : Definition) (z room : ℕ) {w : Walk} → w ≡ start → (r : Check) → CheckOwes d w z room r
    → in_bytes r 4 ≡ in_bytes (checked d start z room) 4
same_in_bytes d z room {w} first r owes = ap (λ c. in_bytes c 4) (check_is d w z room owes ∙ ap (λ w. checked d w z room) first)
