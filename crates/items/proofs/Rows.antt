-- Rows: what each room of one says, and how one fills item by item.
use Prim.Native.Nat.{ℕ, zero, suc, ◌+◌, ◌<◌, ◌≤◌}
use mathlib.Core.Bool.{Bool, true, false, cond}
use mathlib.Core.List.{List, [], ◌∷◌}
use mathlib.Core.Path.{◌≡◌, refl, sym, ap, ap₂, ◌∙◌}
use native.Mathlib.Numerals.{add-one}
use native.Mathlib.Omega.{arith}
use lib.Dec.{eqb, eqb-zero-suc, eqb-suc-zero, eqb-suc-suc}
use lib.ListN.{length, get_or, take, set, replicate}
use lib.Seq.{take-length, set_out}
use Rattle.items.specs.declared.Of.{Of}
use Rattle.items.specs.declared.Row.{Row}
use Rattle.items.specs.Items.{items, at}
use Rattle.items.specs.Rows.{code_of, row_of}
use Rattle.items.proofs.Tables.{length_table, get_d_table, table_same, set_table, replicate_table}

module _ (of : Of) (l : List (List ℕ)) where
  pub codes_at : (k : ℕ) → k < 64 → get_or (row_of of l).codes k 0 ≡ code_of of (at l k)
  unfolding row_of
  codes_at k h = get_d_table 64 (λ i. code_of of (at l i)) k 0 h

  pub count_of : (row_of of l).count ≡ length l
  unfolding row_of
  count_of = refl

-- ## Item by item

row_none : (of : Of) → replicate 64 (code_of of []) ≡ (row_of of []).codes
unfolding row_of
row_none of = replicate_table 64 (code_of of [])

same : {x : ℕ} (q : Bool) → cond q x x ≡ x
same true = refl
same false = refl

-- one item more is one room more
room : (f : List ℕ → ℕ) (l : List (List ℕ)) (k i : ℕ) → cond (eqb i k) (f (at l k)) (f (at (take k l) i)) ≡ f (at (take (suc k) l) i)
room f [] zero i = same (eqb i 0)
room f [] (suc k) i = same (eqb i (suc k))
room f (x ∷ l) zero zero = refl
room f (x ∷ l) zero (suc i) = simp eqb-suc-zero
room f (x ∷ l) (suc k) zero = simp eqb-zero-suc
room f (x ∷ l) (suc k) (suc i) = simp eqb-suc-suc (room f l k i)

row_more : (of : Of) (l : List (List ℕ)) (k : ℕ) → set (row_of of (take k l)).codes k (code_of of (at l k)) ≡ (row_of of (take (k + 1) l)).codes
unfolding row_of
row_more of l k =
    rw (add-one k)
    (set_table 64 (λ i. code_of of (at (take k l) i)) k (code_of of (at l k))
    ∙ table_same 64 _ _ (λ i _. room (code_of of) l k i))

-- the rooms hold what the first k items say
abbrev pub Filled : Of → List ℕ → List ℕ → ℕ → Type 0
Filled of s codes k = codes ≡ (row_of of (take k (items s))).codes

pub filled_first : (of : Of) (s : List ℕ) {v : ℕ} → v ≡ code_of of [] → Filled of s (replicate 64 v) 0
filled_first of s e = ap (replicate 64) e ∙ row_none of

module _ (of : Of) (s codes : List ℕ) (k : ℕ) {x : List ℕ} (is : x ≡ at (items s) k) (are : Filled of s codes k) where
  pub filled_on : {more : List ℕ} {v : ℕ} → v ≡ code_of of x → more ≡ set codes k v → Filled of s more (k + 1)
  filled_on said laid = laid ∙ ap₂ (λ c y. set c k y) are (said ∙ ap (code_of of) is) ∙ row_more of (items s) k

  -- an item beyond the last room
  pub filled_full : {more : List ℕ} → more ≡ codes → 64 ≤ k → Filled of s more (k + 1)
  unfolding row_of
  filled_full e h =
      let rooms : length codes ≡ 64 = ap length are ∙ length_table 64 (λ i. code_of of (at (take k (items s)) i)) in
      e ∙ sym (set_out codes k (code_of of (at (items s) k)) (omega arith)) ∙ filled_on (ap (code_of of) (sym is)) refl

pub filled_end : (of : Of) (s : List ℕ) {codes : List ℕ} {k : ℕ} → k ≡ length (items s) → Filled of s codes k
    → ◌≡◌ {A = Row} (record { count = k; codes = codes }) (row_of of (items s))
unfolding row_of
filled_end of s {k = k} all are =
    let whole : take k (items s) ≡ items s = rw all (take-length (items s)) in
    ap₂ (λ n c. record { count = n; codes = c }) all (are ∙ ap (λ l. (row_of of l).codes) whole)
