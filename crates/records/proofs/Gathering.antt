-- What is gathered of the first records: one place set for one record more, and in the end what all records are read by. Assumes nothing.
use Prim.Native.Nat.{ℕ, zero, suc, ◌+◌, ◌≤◌, ◌<◌, min}
use mathlib.Core.Bool.{Bool, true, false}
use mathlib.Core.List.{List, [], ◌∷◌, map}
use mathlib.Core.Path.{◌≡◌, refl, sym, ap, ap₂, ◌∙◌}
use native.Mathlib.Nat.{not-suc-le-zero, le_of_suc-le-suc, add-zero, zero-add}
use native.Mathlib.Numerals.{add-one}
use native.Mathlib.Omega.{arith}
use lib.Dec.{leb}
use lib.ListN.{length, take, get_or, set, replicate, length-map}
use lib.Seq.{sets, sets-eq, take_all, take_at}
use borrow.Author.Tests.{leb-true}
use Rattle.frame.specs.declared.fields.Context.{Context}
use Rattle.frame.specs.declared.fields.FieldValues.{FieldValues}
use Rattle.frame.specs.declared.fields.Unread.{Unread}
use Rattle.frame.specs.Lists.{by_lists}
use Rattle.reader.specs.declared.Cursor.{Cursor}
use Rattle.reader.specs.Place.{padded}
use Rattle.std.specs.Prelude.{Result}
use Rattle.records.specs.declared.FieldDef.{FieldDef}
use Rattle.records.specs.Records.{encodings_of, predictors_of, by_records}

-- one more is laid behind those that are laid from room k on
lays : (f : FieldDef → ℕ) (fields : List FieldDef) (i : ℕ) (d : FieldDef) (rooms : List ℕ) (k : ℕ) → i < length fields
    → set (sets rooms k (map f (take i fields))) (k + i) (f (get_or fields i d)) ≡ sets rooms k (map f (take (suc i) fields))
lays f [] i d rooms k h = absurd (not-suc-le-zero h)
lays f (x ∷ xs) zero d rooms k h = ap (λ j. set rooms j (f x)) (add-zero k)
lays f (x ∷ xs) (suc i) d rooms k h =
    let next : k + suc i ≡ suc k + i = omega arith in
    ap (λ j. set (sets rooms k (map f (take (suc i) (x ∷ xs)))) j (f (get_or xs i d))) next ∙ lays f xs i d (set rooms k (f x)) (suc k) (le_of_suc-le-suc h)

pub lays_on : (f : FieldDef → ℕ) (fields : List FieldDef) (i : ℕ) (d : FieldDef) {rooms : List ℕ} → rooms ≡ padded 62 (map f (take i fields))
    → i < length fields → set rooms i (f (get_or fields i d)) ≡ padded 62 (map f (take (i + 1) fields))
lays_on f fields i d e h =
    ap (λ rooms. set rooms i (f (get_or fields i d))) e
    ∙ ap (λ j. set (padded 62 (map f (take i fields))) j (f (get_or fields i d))) (sym (zero-add i))
    ∙ lays f fields i d (replicate 62 0) 0 h
    ∙ ap (λ j. padded 62 (map f (take j fields))) (sym (add-one i))

-- as many as there are records, of those that are laid
all_laid : (f : FieldDef → ℕ) (fields : List FieldDef) → length fields ≤ 62 → take (length fields) (padded 62 (map f fields)) ≡ map f fields
all_laid f fields h =
    ap (take (length fields)) (sets-eq (map f fields) (replicate 62 0) 0 (omega (arith, length-map fields f)))
    ∙ take_at (map f fields) _ (length fields) (length-map fields f)

-- up to 62 are gathered whole; more are refused, whatever is gathered of them
pub ends : (fields : List FieldDef) (i : ℕ) (x : Context) (s : List ℕ) (from : Cursor) {es ps : List ℕ} {r : Result (FieldValues × Cursor) Unread}
    → r ≡ by_lists (length fields) (take (length fields) es) (take (length fields) ps) x s from
    → es ≡ padded 62 (encodings_of (take i fields)) → ps ≡ padded 62 (predictors_of (take i fields)) → i ≡ min (length fields) 62
    → r ≡ by_records fields x s from
unfolding by_lists by_records
ends fields i x s from {es} {ps} {r} e f g k = either (leb n 62) refl
  where
    n : ℕ
    n = length fields

    either : (t : Bool) → leb n 62 ≡ t → r ≡ by_records fields x s from
    either true few =
        let h : n ≤ 62 = leb-true n 62 few in
        let whole : take i fields ≡ fields = take_all i fields (omega arith) in
        let codes = ap (take n) f ∙ ap (λ fs. take n (padded 62 (encodings_of fs))) whole ∙ all_laid (λ f. f.encoding) fields h in
        let kinds = ap (take n) g ∙ ap (λ fs. take n (padded 62 (predictors_of fs))) whole ∙ all_laid (λ f. f.predictor) fields h in
        e ∙ ap₂ (λ es ps. by_lists n es ps x s from) codes kinds
    either false many = rw many (rw many at e)
