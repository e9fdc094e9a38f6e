-- Rows read from lists: the row of a stretch, how many rounds six give, and whether four counts are equal.
use Prim.Native.Nat.{ℕ, min}
use native.Mathlib.Omega.{arith}
use lib.ListN.{length, get_or, take}
use mathlib.Core.Bool.{Bool, ◌&&◌, ◌||◌}
use mathlib.Core.List.{List, [], ◌∷◌, reverse}
use mathlib.Core.Path.{◌≡◌, sym, ap, ◌∙◌}
use lib.Dec.{eqb}
use Rattle.items.specs.declared.Of.{Of}
use Rattle.items.specs.declared.Row.{Row}
use Rattle.items.specs.Items.{items}
use Rattle.items.specs.Rows.{row_of}
use Rattle.definition.specs.declared.Rows.{Rows}
use Rattle.definition.specs.Checks.{Finding, check, ◌or_else◌}
use Rattle.definition.specs.MainLists.{MainItems, rounds, wrong, lengths, in_lengths}
use Rattle.definition.specs.Rows.{rows_of, both, ForMain, ForSlow}
use Rattle.definition.specs.SlowLists.{equal_counts}

-- the row of a text that is known
pub row_read : {r : Row} (of : Of) {s t : List ℕ} → r ≡ row_of of (items s) → s ≡ t → r ≡ row_of of (items t)
row_read of e is = e ∙ ap (λ x. row_of of (items x)) is

min_assoc : (a b c : ℕ) → min a (min b c) ≡ min (min a b) c
min_assoc a b c = omega arith

min_six : (a b c d e f : ℕ) → min a (min b (min c (min d (min e f)))) ≡ min (min (min (min (min a b) c) d) e) f
min_six a b c d e f = min_assoc a b _ ∙ min_assoc _ c _ ∙ min_assoc _ d _ ∙ min_assoc _ e f

-- the smallest of six counts
pub rounds_of : {rows : Rows} {n : ℕ} → n ≡ min (min (min (min (min rows.names.count rows.intra_predictors.count) rows.inter_predictors.count)
    rows.intra_encodings.count) rows.inter_encodings.count) rows.signs.count → ForMain rows (λ l. n ≡ rounds l)
unfolding rounds rows_of row_of
rounds_of {rows} m l e =
    m
    ∙ ap (λ (r : Rows). min (min (min (min (min r.names.count r.intra_predictors.count) r.inter_predictors.count)
    r.intra_encodings.count) r.inter_encodings.count) r.signs.count) e
    ∙ sym (min_six (length l.names) (length l.intra_predictors) _ _ _ _)

-- the counts in the zips' order, and whether the list at a place of it has another length than it must
abbrev pub counts : Rows → List ℕ
counts r = r.names.count ∷ r.signs.count ∷ r.intra_predictors.count ∷ r.inter_predictors.count ∷ r.intra_encodings.count ∷ r.inter_encodings.count ∷ []

abbrev pub wrong_at : Rows → (n place : ℕ) → Bool
wrong_at r n place = wrong n (get_or (counts r) place 0) (reverse (take place (counts r)))

-- checks 6 and 7 on six counts
pub lengths_said : {rows : Rows} (n : ℕ) {f : Finding} (l : MainItems) → rows ≡ rows_of l →
    f ≡ (check (wrong_at rows n 0 || (wrong_at rows n 2 || (wrong_at rows n 4 || wrong_at rows n 1))) 6 n
    or_else check (wrong_at rows n 3 || wrong_at rows n 5) 7 n) → f ≡ in_lengths l n
unfolding in_lengths lengths rows_of row_of
lengths_said {rows} n l e is =
    is
    ∙ ap (λ r. check (wrong_at r n 0 || (wrong_at r n 2 || (wrong_at r n 4 || wrong_at r n 1))) 6 n or_else check (wrong_at r n 3 || wrong_at r n 5) 7 n) e

-- four counts that are n
pub equal_counts_of : (rows : Rows) (n : ℕ)
    → ForSlow rows (λ l. equal_counts l n ≡ (eqb rows.names.count n && (eqb rows.intra_predictors.count n
    && (eqb rows.intra_encodings.count n && eqb rows.signs.count n))))
unfolding equal_counts rows_of both row_of
equal_counts_of rows n l e =
    sym (ap (λ (r : Rows). eqb r.names.count n && (eqb r.intra_predictors.count n
    && (eqb r.intra_encodings.count n && eqb r.signs.count n))) e)
