-- The rows of a walk cut anywhere: the first k are the first k of all, j and then k are j + k, there are no more than k, and all are of one length.
use Prim.Native.Nat.{ℕ, zero, suc, ◌+◌, ◌*◌, ◌≤◌}
use mathlib.Core.Bool.{true, false, true≢false}
use mathlib.Core.List.{List, [], ◌∷◌, ◌++◌}
use mathlib.Core.Path.{◌≡◌, refl, sym, ap, ap₂, ◌∙◌}
use native.Mathlib.Nat.{suc-add, suc-mul, zero-mul}
use native.Mathlib.Omega.{arith}
use lib.ListN.{length, take, length-append}
use Rattle.plan.specs.declared.Definition.{Definition}
use Rattle.section.specs.declared.Walk.{Walk}
use Rattle.section.specs.Answers.{is_over}
use Rattle.calls.specs.Call.{left, called}
use Rattle.calls.proofs.Calls.{called_end, called_less}
use Rattle.calls.proofs.Turns.{Kept, called_kept}
use Rattle.rows.specs.Rows.{Rows, row_length, row_of, rows_from, all_rows, joined}
use Rattle.rows.proofs.Ended.{over_again}
use Rattle.rows.proofs.OneRow.{length_row_of}
use Rattle.rows.proofs.Turns.{rows_over, rows_on, rows_by_law}

module _ (d : Definition) (s : List ℕ) where
  -- ## How many, how long, and the walk behind them

  pub rows_few : (k : ℕ) (w : Walk) → length (rows_from d s k w).rows ≤ k
  rows_few = rows_by_law d s (λ k w x. length x.rows ≤ k) (λ w. omega arith) (λ k w e. omega arith) (λ k w x e few. omega arith)

  pub rows_long : (k : ℕ) (w : Walk) → length (joined (rows_from d s k w).rows) ≡ length (rows_from d s k w).rows * row_length d
  unfolding joined
  rows_long =
      rows_by_law d s (λ k w x. length (joined x.rows) ≡ length x.rows * row_length d)
      (λ w. sym (zero-mul (row_length d))) (λ k w e. sym (zero-mul (row_length d)))
      (λ k w x e long.
      let r = row_of d (called d s w) in
      length-append r (joined x.rows) ∙ ap₂ ◌+◌ (length_row_of d (called d s w)) long
      ∙ (let q : row_length d + length x.rows * row_length d ≡ suc (length x.rows) * row_length d =
      omega (arith, suc-mul (length x.rows) (row_length d)) in q))

  pub rows_kept : (k : ℕ) (w : Walk) → Kept d s w → Kept d s (rows_from d s k w).walk
  rows_kept =
      rows_by_law d s (λ k w x. Kept d s w → Kept d s x.walk) (λ w h. h) (λ k w e h. called_kept d s w h) (λ k w x e keeps h. keeps (called_kept d s w h))

  -- ## Cut anywhere

  -- where a call is over there is no row
  no_rows : (k : ℕ) (w : Walk) → is_over (called d s w).answer ≡ true → (rows_from d s k w).rows ≡ []
  unfolding rows_from
  no_rows zero w e = refl
  no_rows (suc k) w e = ap (λ (x : Rows). x.rows) (rows_over d s w (suc k) (omega arith) e)

  pub rows_more : (j k : ℕ) (w : Walk) → (rows_from d s (j + k) w).rows ≡ (rows_from d s j w).rows ++ (rows_from d s k (rows_from d s j w).walk).rows
  rows_more j k =
      rows_by_law d s (λ j w x. (rows_from d s (j + k) w).rows ≡ x.rows ++ (rows_from d s k x.walk).rows)
      (λ w. ap (λ n. (rows_from d s n w).rows) (let q : 0 + k ≡ k = omega arith in q))
      (λ j w e. no_rows (suc j + k) w e ∙ sym (no_rows k (called d s w).walk (over_again d s w e)))
      (λ j w x e more.
      ap (λ n. (rows_from d s n w).rows) (suc-add j k) ∙ ap (λ (y : Rows). y.rows) (rows_on d s w (j + k) e) ∙ ap (λ rs. row_of d (called d s w) ∷ rs) more)
      j

  -- as many calls as bytes are left give all rows
  taken_of : (k : ℕ) (w : Walk) (m : ℕ) → left s w ≤ m → (rows_from d s k w).rows ≡ take k (rows_from d s m w).rows
  taken_of =
      rows_by_law d s (λ k w x. (m : ℕ) → left s w ≤ m → x.rows ≡ take k (rows_from d s m w).rows)
      (λ w m h. refl)
      (λ k w e m h. ap (take (suc k)) (sym (no_rows m w e)))
      (λ k w x e taken m. more k w x e taken m)
    where
      more : (k : ℕ) (w : Walk) (x : Rows) → is_over (called d s w).answer ≡ false
          → ((m : ℕ) → left s (called d s w).walk ≤ m → x.rows ≡ take k (rows_from d s m (called d s w).walk).rows)
          → (m : ℕ) → left s w ≤ m → row_of d (called d s w) ∷ x.rows ≡ take (suc k) (rows_from d s m w).rows
      more k w x e taken zero h = absurd (true≢false (sym (called_end d s w (omega arith)) ∙ e))
      more k w x e taken (suc m) h =
          ap (λ rs. row_of d (called d s w) ∷ rs) (taken m (omega (arith, called_less d s w e)))
          ∙ ap (λ (y : Rows). take (suc k) y.rows) (sym (rows_on d s w m e))

  pub rows_taken : (w : Walk) (k : ℕ) → (rows_from d s k w).rows ≡ take k (all_rows d s w)
  unfolding all_rows
  rows_taken w k = taken_of k w (length s) (omega arith)
