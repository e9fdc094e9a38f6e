-- Whether a round has a name and numbers: by the codes of the rows, and by the items.
use Prim.Native.Nat.{ℕ, ◌-◌, ◌<◌}
use mathlib.Core.Bool.{Bool, not, ◌&&◌}
use mathlib.Core.List.{List, [], ◌∷◌}
use Rattle.std.specs.Prelude.{Option, None, Some}
use mathlib.Core.Path.{◌≡◌, refl, ap, ap₂, ◌∙◌}
use native.Mathlib.Omega.{arith}
use lib.Dec.{eqb, ltb}
use lib.ListN.{get_or}
use borrow.Author.Tests.{ne_eqb}
use Rattle.items.specs.declared.Of.{Of}
use Rattle.items.specs.declared.Of.TheVariants.{Names, Predictors, Encodings}
use Rattle.items.specs.Items.{at}
use Rattle.items.specs.Rows.{name_code, code_of, row_of}
use Rattle.items.specs.Said.{predictor_of, encoding_of, numbered}
use Rattle.items.specs.Text.{ascii, same}
use Rattle.items.proofs.Rows.{codes_at}
use Rattle.items.proofs.Saying.{iteration_code, time_code}
use Rattle.definition.specs.declared.Rows.{Rows}
use Rattle.definition.specs.Checks.{Finding, check, ◌or_else◌, unknown_in, unknown_from}
use Rattle.definition.specs.MainLists.{Items, MainItems, said, says, is_field, in_rounds}
use Rattle.definition.specs.Rows.{is_coded, rows_of, ForMain}

-- 255 stands for an unknown item, and a number below for itself
number_said : (a : ℕ) (o : Option ℕ) → a < 255 → eqb (numbered o) a ≡ says a o
number_said a None h = ne_eqb 255 a (omega arith)
number_said a (Some n) h = refl

module _ (k : ℕ) (below : k < 64) where
  coded : (of : Of) (l : Items) (a : ℕ) {q : Bool} → eqb (code_of of (at l k)) a ≡ q → eqb (get_or (row_of of l).codes k 0) a ≡ q
  coded of l a e = ap (λ c. eqb c a) (codes_at of l k below) ∙ e

  predictor_said : (l : Items) (a : ℕ) → a < 255 → eqb (get_or (row_of Predictors l).codes k 0) a ≡ says a (predictor_of (at l k))
  unfolding code_of
  predictor_said l a h = coded Predictors l a (number_said a (predictor_of (at l k)) h)

  encoding_said : (l : Items) (a : ℕ) → a < 255 → eqb (get_or (row_of Encodings l).codes k 0) a ≡ says a (encoding_of (at l k))
  unfolding code_of
  encoding_said l a h = coded Encodings l a (number_said a (encoding_of (at l k)) h)

  -- what the codes say of a round is what its items say
  pub field_said : (name : ℕ) (text : List ℕ) → ((item : List ℕ) → eqb (name_code item) name ≡ same item text)
      → (a b c d : ℕ) → (a < 255) × (b < 255) × (c < 255) × (d < 255)
      → (rows : Rows) → ForMain rows (λ l. is_coded rows k name (a ∷ b ∷ c ∷ d ∷ []) ≡ is_field l k text a b c d)
  unfolding rows_of is_field code_of
  field_said name text named a b c d h rows l e =
      ap (λ r. is_coded r k name (a ∷ b ∷ c ∷ d ∷ [])) e
      ∙ ap₂ ◌&&◌ (coded Names l.names name (named (at l.names k)))
      (ap₂ ◌&&◌ (predictor_said l.intra_predictors a h.0)
      (ap₂ ◌&&◌ (predictor_said l.inter_predictors b h.1)
      (ap₂ ◌&&◌ (encoding_said l.intra_encodings c h.2) (encoding_said l.inter_encodings d h.3))))

pub iteration_said : (rows : Rows) → ForMain rows (λ l. is_coded rows 0 1 (0 ∷ 6 ∷ 1 ∷ 9 ∷ []) ≡ is_field l 0 (ascii "loopIteration") 0 6 1 9)
iteration_said = field_said 0 (omega arith) 1 (ascii "loopIteration") iteration_code 0 6 1 9 (omega arith)

pub time_said : (rows : Rows) → ForMain rows (λ l. is_coded rows 1 2 (0 ∷ 2 ∷ 1 ∷ 0 ∷ []) ≡ is_field l 1 (ascii "time") 0 2 1 0)
time_said = field_said 1 (omega arith) 2 (ascii "time") time_code 0 2 1 0 (omega arith)

-- checks 3, 4 and 5 by the codes of the rows
pub rounds_said : {rows : Rows} {f : Finding} (n : ℕ) (l : MainItems) → rows ≡ rows_of l →
    f ≡ (unknown_in 0 (said l 0)
    or_else check (not (is_coded rows 0 1 (0 ∷ 6 ∷ 1 ∷ 9 ∷ []))) 4 0
    or_else check (ltb n 2) 5 1
    or_else unknown_in 1 (said l 1)
    or_else check (not (is_coded rows 1 2 (0 ∷ 2 ∷ 1 ∷ 0 ∷ []))) 5 1
    or_else unknown_from (said l) 2 (n - 2)) → f ≡ in_rounds l n
unfolding in_rounds
rounds_said {rows} n l e is = is ∙ rw (iteration_said rows l e, time_said rows l e)
