-- The next rows of a walk behind the check: refused, or laid out.
use Prim.Native.Nat.{ℕ, ◌/◌}
use Rattle.std.specs.Prelude.{Result, Ok, Err}
use mathlib.Core.List.{List}
use mathlib.Core.Path.{◌≡◌, sym, ap, ◌∙◌}
use native.Mathlib.Omega.{arith}
use lib.ListN.{length}
use Rattle.plan.specs.declared.Definition.{Definition}
use Rattle.section.specs.declared.Refusal.{Refusal}
use Rattle.section.specs.declared.Walk.{Walk}
use Rattle.section.specs.Refusals.{Check}
use Rattle.section.proofs.Checks.{refusal_verdict}
use Rattle.rows.specs.declared.Laid.{Laid}
use Rattle.rows.specs.declared.Unlaid.{Unlaid}
use Rattle.rows.specs.Owes.{CheckOwes, NextOwes}
use Rattle.rows.specs.Rows.{Rows, Told, row_length, rows_from, checked_rows, told, laid_out, checked_first, next_rows}

-- the verdict that is found
pub check_is : (d : Definition) (w : Walk) (z room : ℕ) {r : Check} → CheckOwes d w z room r → r ≡ checked_rows d w z room
unfolding checked_rows
check_is d w z room owes = refusal_verdict d w z room (row_length d) owes

module _ (d : Definition) (s : List ℕ) (w : Walk) (out : List ℕ) where
  next_by : (c : Check) → CheckOwes d w (length s) (length out) c → checked_first c (rows_from d s (length out / row_length d) w) w out ≡ next_rows d s w out
  unfolding next_rows
  next_by c verdict = ap (λ c. checked_first c (rows_from d s (length out / row_length d) w) w out) (check_is d w (length s) (length out) verdict)

  pub next_refused : {why : Refusal} → CheckOwes d w (length s) (length out) (Err why) → NextOwes d w s out (Err (record { why = why; walk = w })) out
  unfolding checked_first
  next_refused verdict = next_by _ verdict

  pub next_laid : {u : Unit {0}} → CheckOwes d w (length s) (length out) (Ok u) → (r : Laid) {after : List ℕ}
      → told (Ok r) after ≡ laid_out (rows_from d s (length out / row_length d) w) out → NextOwes d w s out (Ok r) after
  unfolding checked_first
  next_laid verdict r e = e ∙ next_by _ verdict

-- ## What an answer of `next` tells

module _ (d : Definition) (s : List ℕ) (w : Walk) (out : List ℕ) where
  -- a refusal is that of the check, and it hands the walk back and keeps the buffer's content
  told_refused : (c : Check) (x : Rows) {r : Unlaid} {after : List ℕ} → told (Err r) after ≡ checked_first c x w out
      → (c ≡ Err r.why) × (r.walk ≡ w) × (after ≡ out)
  unfolding checked_first laid_out
  told_refused (Ok u) x e = let z : ◌≡◌ {A = ℕ} 0 1 = cc (ap (λ (t : Told). t.given) e) in absurd (omega arith)
  told_refused (Err y) x {r} e =
      let g : ◌≡◌ {A = Result Laid Unlaid} (Err r) (Err (record { why = y; walk = w })) = ap (λ (t : Told). t.given) e in
      let h : r ≡ record { why = y; walk = w } = cc in
      (ap Err (sym (ap (λ (t : Unlaid). t.why) h)), ap (λ (t : Unlaid). t.walk) h, ap (λ (t : Told). t.out) e)

  pub next_kept : {r : Unlaid} {after : List ℕ} → NextOwes d w s out (Err r) after
      → (checked_rows d w (length s) (length out) ≡ Err r.why) × (r.walk ≡ w) × (after ≡ out)
  unfolding next_rows
  next_kept owes = told_refused (checked_rows d w (length s) (length out)) _ owes
