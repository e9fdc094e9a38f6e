-- One input admits one answer: any two answers that a promise of this crate admits are equal.
use Prim.Native.Nat.{ℕ}
use mathlib.Core.List.{List}
use mathlib.Core.Path.{◌≡◌, ap}
use Rattle.plan.specs.declared.Definition.{Definition}
use Rattle.reader.proofs.One.{one_answer}
use Rattle.extent.specs.declared.Glance.{Glance}
use Rattle.extent.specs.declared.Look.{Look}
use Rattle.extent.specs.Owes.{SightOwes, SightIntoOwes, WithOwes}

pub sight_one : (d : Definition) (s : List ℕ) (place : ℕ) {r t : Look} → SightOwes d s place r → SightOwes d s place t → r ≡ t
sight_one d s place = one_answer

-- what is returned, and the numbers that then stand in the rooms; the flag has no part in it
pub sight_into_one : (d : Definition) (s : List ℕ) (place : ℕ) {r t : Glance} {vs ws : List ℕ}
    → SightIntoOwes d s place r vs → SightIntoOwes d s place t ws → (r ≡ t) × (vs ≡ ws)
sight_into_one d s place p q =
    let e = sight_one d s place p q in
    (ap (λ (x : Look). record { seen = x.seen; iteration = x.raw.iteration; time = x.raw.time }) e, ap (λ (x : Look). x.raw.fields) e)

pub with_one : (g : Glance) (fields : List ℕ) {r t : Look} → WithOwes g fields r → WithOwes g fields t → r ≡ t
with_one g fields = one_answer
