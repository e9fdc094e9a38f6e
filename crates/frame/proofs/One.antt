-- One input admits one answer: any two answers that a promise of this crate admits are equal.
use Rattle.std.proofs.Common.{◌≡◌, ℕ, List, ap, Option, None, Result}
use Rattle.plan.specs.declared.Definition.{Definition}
use Rattle.raws.specs.declared.Raw.{Raw}
use Rattle.reader.specs.declared.Cursor.{Cursor}
use Rattle.reader.proofs.One.{one_answer}
use Rattle.frame.specs.declared.fields.Context.{Context}
use Rattle.frame.specs.declared.fields.FieldValues.{FieldValues}
use Rattle.frame.specs.declared.fields.Unread.{Unread}
use Rattle.frame.specs.declared.Head.{Head}
use Rattle.frame.specs.declared.MainFrame.{MainFrame}
use Rattle.frame.specs.Owes.{AbsentOwes, HeadOwes, WithOwes, IntraOwes, InterOwes, SlowOwes, IntraInOwes, InterInOwes, SlowInOwes}
use Rattle.frame.specs.Owes.{ReadFieldsOwes, RefusalOwes}
use Rattle.frame.specs.Parts.{head_of, frame_of, raw_of}

pub absent_one : {r t : MainFrame} → AbsentOwes r → AbsentOwes t → r ≡ t
absent_one = one_answer

pub head_one : (f : MainFrame) {r t : Head} → HeadOwes f r → HeadOwes f t → r ≡ t
head_one f = one_answer

pub with_one : (h : Head) (vs : List ℕ) {r t : MainFrame} → WithOwes h vs r → WithOwes h vs t → r ≡ t
with_one h vs = one_answer

pub intra_one : (d : Definition) (last : MainFrame) (x : Raw) {r t : MainFrame} → IntraOwes d last x r → IntraOwes d last x t → r ≡ t
intra_one d last x f g = one_answer (f None) (g None)

pub inter_one : (d : Definition) (last older : MainFrame) (x : Raw) {r t : MainFrame} → InterOwes d last older x r → InterOwes d last older x t → r ≡ t
inter_one d last older x = one_answer

pub slow_one : (d : Definition) (x : Raw) {r t : List ℕ} → SlowOwes d x r → SlowOwes d x t → r ≡ t
slow_one d x = one_answer

-- in lent rooms: the head, and the values that then stand in the rooms
module _ {r t : Head} {vs ws : List ℕ} where
  apart : frame_of r vs ≡ frame_of t ws → (r ≡ t) × (vs ≡ ws)
  apart e = (ap head_of e, ap (λ (f : MainFrame). f.values) e)

  pub intra_in_one : (d : Definition) (last : Head) (lasts : List ℕ) (i time : ℕ) (xs : List ℕ)
      → IntraInOwes d last lasts i time xs r vs → IntraInOwes d last lasts i time xs t ws → (r ≡ t) × (vs ≡ ws)
  intra_in_one d last lasts i time xs p q = apart (intra_one d (frame_of last lasts) (raw_of i time xs) p q)

  pub inter_in_one : (d : Definition) (last : Head) (lasts : List ℕ) (older : Head) (olders : List ℕ) (time : ℕ) (xs : List ℕ)
      → InterInOwes d last lasts older olders time xs r vs → InterInOwes d last lasts older olders time xs t ws → (r ≡ t) × (vs ≡ ws)
  inter_in_one d last lasts older olders time xs p q = apart (one_answer (p 0) (q 0))

pub slow_in_one : (d : Definition) (xs : List ℕ) {vs ws : List ℕ} → SlowInOwes d xs vs → SlowInOwes d xs ws → vs ≡ ws
slow_in_one d xs p q = one_answer (p 0 0) (q 0 0)

pub read_fields_one : (n : ℕ) (es ps : List ℕ) (x : Context) (s : List ℕ) (from : Cursor) {r t : Result (FieldValues × Cursor) Unread}
    → ReadFieldsOwes n es ps x s from r → ReadFieldsOwes n es ps x s from t → r ≡ t
read_fields_one n es ps x s from = one_answer

pub refusal_one : (e : Unread) {r t : Option (ℕ × ℕ)} → RefusalOwes e r → RefusalOwes e t → r ≡ t
refusal_one e = one_answer
