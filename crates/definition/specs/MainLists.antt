-- The six lists of a main definition (document 01, "Definition lists"): the checks, and the fields.
use Rattle.std.specs.Prelude.{ℕ, zero, suc, ◌+◌, ◌-◌, min, Bool, false, cond, not, ◌&&◌, ◌||◌, Option, Some, None, List, [], ◌∷◌, eqb, ltb, length}
use Rattle.items.specs.Items.{at}
use Rattle.items.specs.Said.{predictor_of, encoding_of, numbered, sign_code}
use Rattle.items.specs.Table.{table}
use Rattle.items.specs.Text.{ascii, same}
use Rattle.plan.specs.declared.Main.{Main}
use Rattle.plan.specs.declared.Numbers.{Numbers}
use Rattle.plan.specs.Sound.{unmet_main}
use Rattle.definition.specs.Checks.{Finding, refusal, check, ◌or_else◌, unknown_in, unknown_from}

abbrev pub Items : Type 0
Items = List (List ℕ)

-- the items of lists 0 to 5
pub record MainItems : Type 0 where
  pub names : Items
  pub intra_predictors : Items
  pub inter_predictors : Items
  pub intra_encodings : Items
  pub inter_encodings : Items
  pub signs : Items

-- n, the smallest item count: fields are made in n rounds
unfoldable pub rounds : MainItems → ℕ
rounds l =
    min (length l.names) (min (length l.intra_predictors) (min (length l.inter_predictors)
    (min (length l.intra_encodings) (min (length l.inter_encodings) (length l.signs)))))

-- ## Checks 3, 4 and 5, round by round

-- what lists 1, 2, 3 and 4 say in round k
unfoldable pub said : MainItems → ℕ → List (ℕ × Option ℕ)
said l k =
    (1, predictor_of (at l.intra_predictors k))
    ∷ (2, predictor_of (at l.inter_predictors k))
    ∷ (3, encoding_of (at l.intra_encodings k))
    ∷ (4, encoding_of (at l.inter_encodings k))
    ∷ []

-- an item says this number
abbrev pub says : ℕ → Option ℕ → Bool
says n None = false
says n (Some m) = eqb m n

-- round k has this name, and these numbers in lists 1 to 4
unfoldable pub is_field : MainItems → ℕ → List ℕ → (a b c d : ℕ) → Bool
is_field l k name a b c d =
    same (at l.names k) name
    && (says a (predictor_of (at l.intra_predictors k))
    && (says b (predictor_of (at l.inter_predictors k))
    && (says c (encoding_of (at l.intra_encodings k))
    && says d (encoding_of (at l.inter_encodings k)))))

-- round 0 passes 3, then 4, before round 1 is looked at; round 1 passes 3, then 5, before round 2
unfoldable pub in_rounds : MainItems → ℕ → Finding
in_rounds l n =
    unknown_in 0 (said l 0)
    or_else check (not (is_field l 0 (ascii "loopIteration") 0 6 1 9)) 4 0
    or_else check (ltb n 2) 5 1
    or_else unknown_in 1 (said l 1)
    or_else check (not (is_field l 1 (ascii "time") 0 2 1 0)) 5 1
    or_else unknown_from (said l) 2 (n - 2)

-- ## Checks 6 and 7

-- F is among the lists with these counts: one of them is n
unfoldable pub reached : ℕ → List ℕ → Bool
reached n [] = false
reached n (c ∷ cs) = eqb c n || reached n cs

-- the zips take the lists in the order 0, 5, 1, 2, 3, 4, and F is the first of them with n items: a list before F must have n + 1 items,
-- F and one after F n. Here are the counts of a list and of those before it: has the list another length?
unfoldable pub wrong : ℕ → (count : ℕ) → (before : List ℕ) → Bool
wrong n count before = not (eqb count (cond (reached n (count ∷ before)) n (n + 1)))

unfoldable pub lengths : (n c0 c1 c2 c3 c4 c5 : ℕ) → Finding
lengths n c0 c1 c2 c3 c4 c5 =
    let w0 = wrong n c0 [] in
    let w5 = wrong n c5 (c0 ∷ []) in
    let w1 = wrong n c1 (c5 ∷ c0 ∷ []) in
    let w2 = wrong n c2 (c1 ∷ c5 ∷ c0 ∷ []) in
    let w3 = wrong n c3 (c2 ∷ c1 ∷ c5 ∷ c0 ∷ []) in
    let w4 = wrong n c4 (c3 ∷ c2 ∷ c1 ∷ c5 ∷ c0 ∷ []) in
    check (w0 || (w1 || (w3 || w5))) 6 n
    or_else check (w2 || w4) 7 n

unfoldable pub in_lengths : MainItems → ℕ → Finding
in_lengths l n =
    lengths n (length l.names) (length l.intra_predictors) (length l.inter_predictors)
    (length l.intra_encodings) (length l.inter_encodings) (length l.signs)

-- ## The fields, and check 8

-- what the items of a list say of its fields: field i is item i + first, and 0 stands behind the last of n items
unfoldable pub fields_from : (first rooms n : ℕ) → (List ℕ → ℕ) → Items → List ℕ
fields_from first rooms n code l = table rooms (λ i. cond (ltb (i + first) n) (code (at l (i + first))) 0)

abbrev pub predictor : List ℕ → ℕ
predictor item = numbered (predictor_of item)

abbrev pub encoding : List ℕ → ℕ
encoding item = numbered (encoding_of item)

-- the first `motor[0]` counts: of m fields from field i on, or the place behind them
unfoldable pub motor_from : Items → (i m : ℕ) → ℕ
motor_from names i zero = i
motor_from names i (suc m) = cond (same (at names (i + 2)) (ascii "motor[0]")) i (motor_from names (suc i) m)

-- the fields are the items behind `loopIteration` and `time`
unfoldable pub main_of : MainItems → ℕ → Main
main_of l n =
    record {
      n = n;
      motor = motor_from l.names 0 (n - 2);
      intra_predictors = fields_from 2 62 n predictor l.intra_predictors;
      inter_predictors = fields_from 2 62 n predictor l.inter_predictors;
      intra_encodings = fields_from 2 62 n encoding l.intra_encodings;
      inter_encodings = fields_from 2 62 n encoding l.inter_encodings;
      signs = fields_from 2 62 n sign_code l.signs;
    }

-- check 8, over the finished fields
unfoldable pub in_needs : Option ℕ → Finding
in_needs None = None
in_needs (Some field) = Some (refusal 8 field 0)

-- ## Checks 2 to 8 of six lists that are there

unfoldable pub judged_main : MainItems → Numbers → Finding
judged_main l numbers =
    let n = rounds l in
    check (ltb 64 n) 2 n
    or_else in_rounds l n
    or_else in_lengths l n
    or_else in_needs (unmet_main (main_of l n) numbers)
