-- One input admits one answer: any two answers that a promise of this crate admits are equal.
use Prim.Native.Nat.{ℕ}
use mathlib.Core.List.{List}
use mathlib.Core.Path.{◌≡◌, ap}
use Rattle.std.specs.Prelude.{Result}
use Rattle.plan.specs.declared.Definition.{Definition}
use Rattle.reader.specs.declared.Cursor.{Cursor}
use Rattle.reader.specs.declared.Fault.{Fault}
use Rattle.reader.proofs.One.{one_answer}
use Rattle.raws.specs.declared.Front.{Front}
use Rattle.raws.specs.declared.Raw.{Raw}
use Rattle.raws.specs.Owes.{ClearOwes, MainFieldsOwes, IntraIntoOwes, InterIntoOwes, SlowIntoOwes, IntraOwes, InterOwes, SlowOwes}
use Rattle.raws.specs.Place.{Lent, beside}

pub clear_one : {r t : List ℕ} → ClearOwes r → ClearOwes t → r ≡ t
clear_one = one_answer

-- what is returned, and the numbers that then stand in the rooms
module _ {r t : Result Front Fault} {vs ws : List ℕ} where
  apart : beside r vs ≡ beside t ws → (r ≡ t) × (vs ≡ ws)
  apart e = (ap (λ (x : Lent). x.front) e, ap (λ (x : Lent). x.fields) e)

  module _ (n : ℕ) (es s : List ℕ) (from : Cursor) where
    pub intra_into_one : IntraIntoOwes n es s from r vs → IntraIntoOwes n es s from t ws → (r ≡ t) × (vs ≡ ws)
    intra_into_one p q = apart (one_answer p q)

    pub inter_into_one : InterIntoOwes n es s from r vs → InterIntoOwes n es s from t ws → (r ≡ t) × (vs ≡ ws)
    inter_into_one p q = apart (one_answer p q)

    pub slow_into_one : SlowIntoOwes n es s from r vs → SlowIntoOwes n es s from t ws → (r ≡ t) × (vs ≡ ws)
    slow_into_one p q = apart (one_answer p q)

pub main_fields_one : (n : ℕ) (es s : List ℕ) (from : Cursor) (i t : ℕ) {r r' : Result (Raw × Cursor) Fault}
    → MainFieldsOwes n es s from i t r → MainFieldsOwes n es s from i t r' → r ≡ r'
main_fields_one n es s from i t = one_answer

module _ (d : Definition) (s : List ℕ) (from : Cursor) where
  pub intra_one : {r t : Result (Raw × Cursor) Fault} → IntraOwes d s from r → IntraOwes d s from t → r ≡ t
  intra_one = one_answer

  pub inter_one : {r t : Result (Raw × Cursor) Fault} → InterOwes d s from r → InterOwes d s from t → r ≡ t
  inter_one = one_answer

  pub slow_one : {r t : Result (Raw × Cursor) Fault} → SlowOwes d s from r → SlowOwes d s from t → r ≡ t
  slow_one = one_answer
