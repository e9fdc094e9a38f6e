-- One input admits one answer: any two answers that a promise of this crate admits are equal, and so are the buffers behind them.
use Prim.Native.Nat.{ℕ}
use mathlib.Core.Bool.{Bool}
use mathlib.Core.List.{List, []}
use mathlib.Core.Path.{◌≡◌, ap}
use Rattle.plan.specs.declared.Definition.{Definition}
use Rattle.reader.proofs.One.{one_answer}
use Rattle.extent.specs.declared.Glance.{Glance}
use Rattle.extent.specs.declared.Look.{Look}
use Rattle.extent.specs.declared.Seen.{Seen}
use Rattle.section.specs.declared.Answer.{Answer}
use Rattle.section.specs.declared.Looked.{Looked}
use Rattle.section.specs.declared.quick.Light.{Light}
use Rattle.section.specs.declared.quick.Settled.{Settled}
use Rattle.section.specs.declared.quick.Values.{Values}
use Rattle.section.specs.declared.Refusal.{Refusal}
use Rattle.section.specs.declared.Tally.{Tally}
use Rattle.section.specs.declared.Walk.{Walk}
use Rattle.section.specs.Answers.{Told, told}
use Rattle.section.specs.Lent.{light_of, walk_of}
use Rattle.section.specs.Refusals.{Check}
use Rattle.section.specs.Owes.{IsOverOwes, StartOwes, AdmitsOwes, RoomNeededOwes, CheckOwes, PutOwes, FieldsOfOwes, RefusedOwes, OverOwes}
use Rattle.section.specs.Owes.{AfterOwes, SettleOwes, LightOwes, ValuesOwes, WithOwes, HandOutOwes, SettleInOwes, LookOwes}
use Rattle.section.proofs.Paper.{paper_injective, found_injective}

-- what is told says the answer and the buffer
pub told_one : (r t : Looked) (a b : List ℕ) → told r a ≡ told t b → (r ≡ t) × (a ≡ b)
told_one r t a b e =
    let answer = paper_injective r.answer t.answer (ap (λ (x : Told). x.said) e) in
    (λ i. record { answer = answer i; trials = (e i).trials; walk = (e i).walk }, ap (λ (x : Told). x.out) e)

pub is_over_one : (answer : Answer) {r t : Bool} → IsOverOwes answer r → IsOverOwes answer t → r ≡ t
is_over_one answer = one_answer

pub start_one : {r t : Walk} → StartOwes r → StartOwes t → r ≡ t
start_one = one_answer

pub admits_one : (d : Definition) (w : Walk) (z : ℕ) {r t : Bool} → AdmitsOwes d w z r → AdmitsOwes d w z t → r ≡ t
admits_one d w z = one_answer

pub room_needed_one : (d : Definition) {r t : ℕ} → RoomNeededOwes d r → RoomNeededOwes d t → r ≡ t
room_needed_one d = one_answer

pub check_one : (d : Definition) (w : Walk) (z room : ℕ) {r t : Check} → CheckOwes d w z room r → CheckOwes d w z room t → r ≡ t
check_one d w z room {r} {t} p q = found_injective r t (one_answer p q)

pub put_one : (values out : List ℕ) {a b : List ℕ} → PutOwes values out a → PutOwes values out b → a ≡ b
put_one values out = one_answer

pub fields_of_one : (d : Definition) (answer : Answer) {r t : ℕ} → FieldsOfOwes d answer r → FieldsOfOwes d answer t → r ≡ t
fields_of_one d answer = one_answer

pub refused_one : (why : Refusal) (w : Walk) (r t : Looked) → RefusedOwes why w r → RefusedOwes why w t → r ≡ t
refused_one why w r t p q = (told_one r t [] [] (one_answer (p []) (q []))).0

pub over_one : (w : Walk) (r t : Looked) → OverOwes w r → OverOwes w t → r ≡ t
over_one w r t p q = (told_one r t [] [] (one_answer (p []) (q []))).0

pub after_one : (t : Tally) (x : Seen) (z : ℕ) {r u : Tally} → AfterOwes t x z r → AfterOwes t x z u → r ≡ u
after_one t x z = one_answer

pub settle_one : (d : Definition) (w : Walk) (l : Look) (z : ℕ) (out : List ℕ) (r t : Looked) (a b : List ℕ)
    → SettleOwes d w l z out r a → SettleOwes d w l z out t b → (r ≡ t) × (a ≡ b)
settle_one d w l z out r t a b p q = told_one r t a b (one_answer p q)

-- in lent rooms: what is returned, and what then stands in each of the rooms
pub light_one : (w : Walk) {r t : Light} → LightOwes w r → LightOwes w t → r ≡ t
light_one w = one_answer

pub values_one : (w : Walk) {r t : Values} → ValuesOwes w r → ValuesOwes w t → r ≡ t
values_one w = one_answer

pub with_one : (w : Light) (v : Values) {r t : Walk} → WithOwes w v r → WithOwes w v t → r ≡ t
with_one w v = one_answer

pub hand_out_one : (d : Definition) (x : Settled) (v : Values) (out : List ℕ) (r t : Looked) (a b : List ℕ)
    → HandOutOwes d x v out r a → HandOutOwes d x v out t b → (r ≡ t) × (a ≡ b)
hand_out_one d x v out r t a b p q = told_one r t a b (one_answer p q)

-- the walk in parts
pub parts_one : {w x : Light} {v u : Values} → walk_of w v ≡ walk_of x u → v.fields ≡ u.fields → (w ≡ x) × (v ≡ u)
parts_one e f = (ap light_of e, λ i. record { last = (e i).history.last.values; older = (e i).history.older.values; fields = f i })

pub settle_in_one : (d : Definition) (w : Light) (g : Glance) (raws : List ℕ) (z : ℕ) (v : Values) {r t : Settled} {a b : Values}
    → SettleInOwes d w g raws z v r a → SettleInOwes d w g raws z v t b → (r ≡ t) × (a ≡ b)
settle_in_one d w g raws z v {r} {t} p q =
    let e = one_answer p q in
    let answer = paper_injective r.answer t.answer (ap (λ (x : Told). x.said) e) in
    let parts = parts_one (ap (λ (x : Told). x.walk) e) (ap (λ (x : Told). x.out) e) in
    (λ i. record { answer = answer i; walk = parts.0 i }, parts.1)

pub look_one : (d : Definition) (w : Walk) (s out : List ℕ) (r t : Looked) (a b : List ℕ) → LookOwes d w s out r a → LookOwes d w s out t b → (r ≡ t) × (a ≡ b)
look_one d w s out r t a b p q = told_one r t a b (one_answer p q)
