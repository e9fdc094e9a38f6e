-- What C is told: eight numbers, a refusal that writes nothing, and room for what is lent.
use Prim.Native.Nat.{ℕ, ◌<◌, ◌≤◌}
use Rattle.std.specs.Prelude.{Ok, Err}
use mathlib.Core.Bool.{Bool, true, false, cond}
use mathlib.Core.List.{List}
use mathlib.Core.Path.{◌≡◌, refl, ap, ◌∙◌}
use native.Mathlib.Nat.{one-mul}
use native.Mathlib.Omega.{arith}
use lib.Dec.{leb}
use lib.ListN.{length}
use lib.Seq.{sets}
use borrow.Author.Tests.{leb-true, leb-false, le-leb, lt-leb}
use Rattle.octets.specs.Bytes.{longs}
use Rattle.reader.specs.Place.{padded}
use Rattle.section.specs.declared.Refusal.{Refusal}
use Rattle.section.specs.declared.Refusal.TheVariants.{TooShort}
use Rattle.section.specs.Refusals.{Check, pass}
use Rattle.dulimasca.specs.Told.{Reply, reply, packed, packed_by, told_length, telling, if_room, roomy}

-- ## Replies

pub tells : {xs after : List ℕ} (numbers told : List ℕ) → xs ≡ padded 8 numbers → after ≡ sets told 0 (longs xs) → after ≡ telling numbers told
unfolding telling
tells numbers told is e = e ∙ ap (λ x. sets told 0 (longs x)) is

-- a length in bytes
pub packed_short : (n : ℕ) → packed_by (TooShort n) 1 ≡ packed 11 n 0
unfolding packed_by
packed_short n = ap (λ k. packed 11 k 0) (one-mul n)

-- ## Room

module _ (lent : List ℕ) (least : ℕ) where
  long_or : (b : Bool) {u : Unit {0}} → ◌≡◌ {A = Check} (Ok u) (cond b pass (Err (TooShort least))) → b ≡ true
  long_or true e = refl
  long_or false e = let z : ◌≡◌ {A = ℕ} 0 1 = cc in absurd (omega arith)

  short_or : (b : Bool) {why : Refusal} → ◌≡◌ {A = Check} (Err why) (cond b pass (Err (TooShort least))) → (b ≡ false) × (why ≡ TooShort least)
  short_or true e = let z : ◌≡◌ {A = ℕ} 0 1 = cc in absurd (omega arith)
  short_or false e = (refl, cc)

  pub long_enough : {u : Unit {0}} → ◌≡◌ {A = Check} (Ok u) (roomy lent least) → least ≤ length lent
  unfolding roomy
  long_enough e = leb-true least (length lent) (long_or (leb least (length lent)) e)

  pub too_short : {why : Refusal} → ◌≡◌ {A = Check} (Err why) (roomy lent least) → (length lent < least) × (why ≡ TooShort least)
  unfolding roomy
  too_short e = let p = short_or (leb least (length lent)) e in (leb-false least (length lent) p.0, p.1)

module _ (r : Reply) (lent told : List ℕ) where
  pub room_there : told_length ≤ length told → r ≡ if_room r lent told
  unfolding if_room
  room_there h = simp (le-leb told_length (length told) h)

  pub room_short : {why : Refusal} → ◌≡◌ {A = Check} (Err why) (roomy told told_length) → reply (packed_by why 1) lent told ≡ if_room r lent told
  unfolding if_room
  room_short e =
      let p = too_short told told_length e in
      ap (λ y. reply (packed_by y 1) lent told) p.1
      ∙ ap (λ n. reply n lent told) (packed_short told_length)
      ∙ simp (lt-leb told_length (length told) p.0)
