-- One input admits one answer: any two answers that a promise of this crate admits are equal, and so are the buffers behind them.
use Prim.Native.Nat.{ℕ}
use mathlib.Core.List.{List, []}
use mathlib.Core.Path.{◌≡◌, ap}
use Rattle.plan.specs.declared.Definition.{Definition}
use Rattle.reader.proofs.One.{one_answer}
use Rattle.section.specs.declared.Looked.{Looked}
use Rattle.section.specs.declared.Walk.{Walk}
use Rattle.section.proofs.Paper.{paper_injective}
use Rattle.section.proofs.One.{told_one}
use Rattle.walks.specs.declared.Counted.{Counted}
use Rattle.plan.specs.declared.Sort.{Sort}
use Rattle.walks.specs.Owes.{ThroughOwes, CountOwes, FillOwes, counts}
use Rattle.walks.specs.Walks.{Counts}

pub through_one : (d : Definition) (w : Walk) (s : List ℕ) (r t : Looked) → ThroughOwes d w s r → ThroughOwes d w s t → r ≡ t
through_one d w s r t p q = (told_one r t [] [] (one_answer p q)).0

pub count_one : (d : Definition) (s : List ℕ) (r t : Counted) → CountOwes d s r → CountOwes d s t → r ≡ t
count_one d s r t p q =
    let e : counts r ≡ counts t = one_answer p q in
    let answer = paper_injective r.answer t.answer (ap (λ (x : Counts). x.said) e) in
    λ i. record { answer = answer i; tally = (e i).tally }

pub fill_one : (d : Definition) (s : List ℕ) (of : Sort) (k : ℕ) (out : List ℕ) (r t : Looked) (a b : List ℕ)
    → FillOwes d s of k out r a → FillOwes d s of k out t b → (r ≡ t) × (a ≡ b)
fill_one d s of k out r t a b p q = told_one r t a b (one_answer p q)
