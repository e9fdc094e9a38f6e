-- The four lists of a slow definition, 0, 1, 3 and 5 (document 01, "Definition lists"): the checks, and the fields.
use Rattle.std.specs.Prelude.{ℕ, min, Bool, not, ◌&&◌, Option, List, [], ◌∷◌, eqb, ltb, length}
use Rattle.items.specs.Items.{at}
use Rattle.items.specs.Said.{predictor_of, encoding_of, sign_code}
use Rattle.plan.specs.declared.Numbers.{Numbers}
use Rattle.plan.specs.declared.Slow.{Slow}
use Rattle.plan.specs.Sound.{unmet_slow}
use Rattle.definition.specs.Checks.{Finding, check, ◌or_else◌, unknown_from}
use Rattle.definition.specs.MainLists.{Items, fields_from, predictor, encoding, in_needs}

pub record SlowItems : Type 0 where
  pub names : Items
  pub predictors : Items
  pub encodings : Items
  pub signs : Items

unfoldable pub slow_rounds : SlowItems → ℕ
slow_rounds l = min (length l.names) (min (length l.predictors) (min (length l.encodings) (length l.signs)))

-- what lists 1 and 3 say in round k
unfoldable pub slow_said : SlowItems → ℕ → List (ℕ × Option ℕ)
slow_said l k = (1, predictor_of (at l.predictors k)) ∷ (3, encoding_of (at l.encodings k)) ∷ []

-- all four counts are n: nothing is swallowed
unfoldable pub equal_counts : SlowItems → ℕ → Bool
equal_counts l n =
    eqb (length l.names) n
    && (eqb (length l.predictors) n && (eqb (length l.encodings) n && eqb (length l.signs) n))

-- every item is a field
unfoldable pub slow_of : SlowItems → ℕ → Slow
slow_of l n =
    record {
      n = n;
      predictors = fields_from 0 16 n predictor l.predictors;
      encodings = fields_from 0 16 n encoding l.encodings;
      signs = fields_from 0 16 n sign_code l.signs;
    }

-- checks 2, 3 and 6 of four lists that are there, with room for `most` fields
unfoldable pub judged_four : (most : ℕ) → SlowItems → Finding
judged_four most l =
    let n = slow_rounds l in
    check (ltb most n) 2 n
    or_else unknown_from (slow_said l) 0 n
    or_else check (not (equal_counts l n)) 6 n

-- and check 8
unfoldable pub judged_slow : SlowItems → Numbers → Finding
judged_slow l numbers =
    judged_four 16 l
    or_else in_needs (unmet_slow (slow_of l (slow_rounds l)) numbers)
