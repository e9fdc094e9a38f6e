-- Check 3: what the rows say of the items, in one round and in many.
use Rattle.std.proofs.Common.{◌≡◌, ℕ, suc, ◌+◌, ◌-◌, ◌<◌, ◌≤◌, Bool, true, false, cond, eqb, Some, None, get_or, refl, sym, ap, ◌∙◌, add-one, arith}
use Rattle.items.specs.declared.Of.TheVariants.{Predictors, Encodings}
use Rattle.items.specs.declared.Row.{Row}
use Rattle.items.specs.Items.{at}
use Rattle.items.specs.Rows.{code_of, row_of}
use Rattle.items.specs.Said.{predictor_of, encoding_of, unknown}
use Rattle.items.proofs.Rows.{codes_at}
use Rattle.items.proofs.Saying.{predictor_unknown, encoding_unknown}
use Rattle.definition.specs.declared.Paper.{Paper}
use Rattle.definition.specs.declared.Refusal.TheVariants.{Unknown}
use Rattle.definition.specs.declared.Rows.{Rows}
use Rattle.definition.specs.Checks.{paper_of, Finding, ◌or_else◌, unknown_in, unknown_from}
use Rattle.definition.specs.MainLists.{Items, said}
use Rattle.definition.specs.Rows.{rows_of, ForMain}

-- ## One round: lists 1, 2, 3, 4

-- what a code says of the item of one list
abbrev pub check_3 : (list k code : ℕ) → Finding
check_3 list k code = cond (eqb code 255) (Some (paper_of (Unknown list k))) None

before : (b : Bool) (p : Paper) (y : Finding) → (cond b (Some p) None or_else y) ≡ cond b (Some p) y
unfolding ◌or_else◌
before true p y = refl
before false p y = refl

predictor_at : {row : Row} {k : ℕ} (l : Items) → row ≡ row_of Predictors l → k < 64 → eqb (get_or row.codes k 0) 255 ≡ unknown (predictor_of (at l k))
unfolding code_of
predictor_at {k = k} l e h = ap (λ n. eqb n 255) (ap (λ (r : Row). get_or r.codes k 0) e ∙ codes_at Predictors l k h) ∙ predictor_unknown (at l k)

encoding_at : {row : Row} {k : ℕ} (l : Items) → row ≡ row_of Encodings l → k < 64 → eqb (get_or row.codes k 0) 255 ≡ unknown (encoding_of (at l k))
unfolding code_of
encoding_at {k = k} l e h = ap (λ n. eqb n 255) (ap (λ (r : Row). get_or r.codes k 0) e ∙ codes_at Encodings l k h) ∙ encoding_unknown (at l k)

pub in_round : {rows : Rows} {k : ℕ} {f : Finding} →
    f ≡ (check_3 1 k (get_or rows.intra_predictors.codes k 0)
    or_else check_3 2 k (get_or rows.inter_predictors.codes k 0)
    or_else check_3 3 k (get_or rows.intra_encodings.codes k 0)
    or_else check_3 4 k (get_or rows.inter_encodings.codes k 0)) → k < 64 → ForMain rows (λ l. f ≡ unknown_in k (said l k))
unfolding unknown_in said rows_of
in_round e h l is =
    e
    ∙ rw (
      before _ _ _,
      before _ _ _,
      before _ _ _,
      predictor_at l.intra_predictors (ap (λ (r : Rows). r.intra_predictors) is) h,
      predictor_at l.inter_predictors (ap (λ (r : Rows). r.inter_predictors) is) h,
      encoding_at l.intra_encodings (ap (λ (r : Rows). r.intra_encodings) is) h,
      encoding_at l.inter_encodings (ap (λ (r : Rows). r.inter_encodings) is) h,
    )

-- ## Many rounds

-- the rounds from `from` up to k are passed
pub record Passed (rows : Rows) (from n k : ℕ) : Type 0 where
  pub is : ForMain rows (λ l. unknown_from (said l) from (n - from) ≡ unknown_from (said l) k (n - k))

module _ {rows : Rows} {from n k : ℕ} (p : Passed rows from n k) where
  step : {x : Finding} → ForMain rows (λ l. x ≡ unknown_in k (said l k)) → k < n
      → ForMain rows (λ l. unknown_from (said l) from (n - from) ≡ (x or_else unknown_from (said l) (k + 1) (n - (k + 1))))
  unfolding unknown_from
  step in-round lt l e =
      let z : n - k ≡ suc (n - (k + 1)) = omega arith in
      p.is l e ∙ ap (unknown_from (said l) k) z ∙ rw (add-one k, in-round l e)

  pub passed_on : ForMain rows (λ l. None ≡ unknown_in k (said l k)) → k < n → Passed rows from n (k + 1)
  unfolding ◌or_else◌
  passed_on in-round lt = record { is = step in-round lt }

  pub passed_not : {paper : Paper} → ForMain rows (λ l. Some paper ≡ unknown_in k (said l k)) → k < n
      → ForMain rows (λ l. Some paper ≡ unknown_from (said l) from (n - from))
  unfolding ◌or_else◌
  passed_not in-round lt l e = sym (step in-round lt l e)

  pub passed_all : n ≤ k → ForMain rows (λ l. None ≡ unknown_from (said l) from (n - from))
  unfolding unknown_from
  passed_all le l e =
      let z : n - k ≡ 0 = omega arith in
      sym (p.is l e ∙ ap (unknown_from (said l) k) z)
