-- Rows call by call: one that is over gives none, and one that is not gives a row before the rows behind it. And rows joined.
use Prim.Native.Nat.{ℕ, zero, suc, ◌<◌}
use mathlib.Core.Bool.{true, false, cond}
use mathlib.Core.List.{List, [], ◌∷◌, ◌++◌, append_assoc, append-nil}
use mathlib.Core.Path.{◌≡◌, refl, sym, ap, ◌∙◌}
use native.Mathlib.Omega.{arith}
use Rattle.bits.proofs.Laws.{by_test}
use Rattle.plan.specs.declared.Definition.{Definition}
use Rattle.section.specs.declared.Walk.{Walk}
use Rattle.section.specs.Answers.{is_over}
use Rattle.calls.specs.Call.{called}
use Rattle.rows.specs.Rows.{Rows, row_of, in_front, rows_from, joined}

abbrev pub none : Walk → Rows
none w = record { rows = []; walk = w }

-- ## By calls

module _ (d : Definition) (s : List ℕ) (w : Walk) where
  abbrev next : Walk
  next = (called d s w).walk

  pub rows_over : (k : ℕ) → 0 < k → is_over (called d s w).answer ≡ true → rows_from d s k w ≡ none next
  unfolding rows_from
  rows_over zero h e = absurd (omega arith)
  rows_over (suc k) h e = ap (λ q. cond q (none next) (in_front (row_of d (called d s w)) (rows_from d s k next))) e

  pub rows_on : (k : ℕ) → is_over (called d s w).answer ≡ false → rows_from d s (suc k) w ≡ in_front (row_of d (called d s w)) (rows_from d s k next)
  unfolding rows_from
  rows_on k e = ap (λ q. cond q (none next) (in_front (row_of d (called d s w)) (rows_from d s k next))) e

-- what holds of no call, of one that is over, and of one before others holds of all
pub rows_by_law : (d : Definition) (s : List ℕ) (P : ℕ → Walk → Rows → Type 0) → ((w : Walk) → P zero w (none w))
    → ((k : ℕ) (w : Walk) → is_over (called d s w).answer ≡ true → P (suc k) w (none (called d s w).walk))
    → ((k : ℕ) (w : Walk) (x : Rows) → is_over (called d s w).answer ≡ false → P k (called d s w).walk x → P (suc k) w (in_front (row_of d (called d s w)) x))
    → (k : ℕ) (w : Walk) → P k w (rows_from d s k w)
unfolding rows_from
rows_by_law d s P start last on zero w = start w
rows_by_law d s P start last on (suc k) w =
    by_test (P (suc k) w) (is_over (called d s w).answer) (last k w) (λ e. on k w _ e (rows_by_law d s P start last on k (called d s w).walk))

-- ## Joined

pub joined_append : (xs ys : List (List ℕ)) → joined (xs ++ ys) ≡ joined xs ++ joined ys
unfolding joined
joined_append [] ys = refl
joined_append (x ∷ xs) ys = ap (λ l. x ++ l) (joined_append xs ys) ∙ sym (append_assoc x (joined xs) (joined ys))

pub joined_one : (r : List ℕ) → joined (r ∷ []) ≡ r
unfolding joined
joined_one r = append-nil r
