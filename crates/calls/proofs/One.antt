-- One input admits one answer: any two calls that the promise admits are equal, and so are the buffers behind them; a step is determined but for its flag.
use Prim.Native.Nat.{ℕ}
use mathlib.Core.List.{List}
use mathlib.Core.Path.{◌≡◌, ap}
use lib.ListN.{replicate}
use Rattle.plan.specs.declared.Definition.{Definition}
use Rattle.reader.proofs.One.{one_answer}
use Rattle.section.specs.declared.Looked.{Looked}
use Rattle.section.specs.declared.quick.Light.{Light}
use Rattle.section.specs.declared.quick.Values.{Values}
use Rattle.section.specs.declared.Walk.{Walk}
use Rattle.section.specs.Lent.{walk_of}
use Rattle.section.proofs.One.{told_one, parts_one}
use Rattle.calls.specs.declared.Called.{Called}
use Rattle.calls.specs.declared.quick.Stepped.{Stepped}
use Rattle.calls.specs.Lent.{called_of, StepsIn}
use Rattle.calls.specs.Owes.{CallOwes}
use Rattle.calls.specs.Steps.{Steps}

pub call_one : (d : Definition) (w : Walk) (s out : List ℕ) (r t : Looked) (a b : List ℕ) → CallOwes d w s out r a → CallOwes d w s out t b → (r ≡ t) × (a ≡ b)
call_one d w s out r t a b p q = told_one r t a b (one_answer p q)

pub step_one : (d : Definition) (w : Walk) (s out : List ℕ) (r t : Called) (a b : List ℕ) → Steps d w s out r a → Steps d w s out t b
    → (r.looked ≡ t.looked) × (a ≡ b)
step_one d w s out r t a b p q = told_one r.looked t.looked a b (one_answer p.tells q.tells)

-- in lent rooms: what is answered, the walk behind it, and what then stands in the rooms
pub step_in_one : (d : Definition) (w : Light) (s : List ℕ) (v : Values) {r t : Stepped} {a b : Values}
    → StepsIn d w s v r a → StepsIn d w s v t b → (r.answer ≡ t.answer) × (r.walk ≡ t.walk) × (a ≡ b)
step_in_one d w s v {r} {t} {a} {b} p q =
    let e = step_one d (walk_of w v) s (replicate 62 0) (called_of r a) (called_of t b) a.fields b.fields p q in
    let parts = parts_one (ap (λ (x : Looked). x.walk) e.0) e.1 in
    (ap (λ (x : Looked). x.answer) e.0, parts.0, parts.1)
