-- The search for `motor[0]`: the first code of a field's name that is its.
use Rattle.std.proofs.Common.{◌≡◌, ℕ, suc, ◌+◌, ◌-◌, ◌<◌, ◌≤◌, min, Bool, true, false, cond, not}
use Rattle.std.proofs.Common.{eqb, List, [], ◌∷◌, length, get_or, take, drop, sym, ap, ◌∙◌, length-drop, arith}
use Rattle.std.proofs.lemmas.List.{get_or-take, get_or-drop}
use Rattle.std.specs.List.{position_or_len}
use lib.ListN.{length-take}
use Rattle.items.specs.declared.Of.TheVariants.{Names}
use Rattle.items.specs.declared.Row.{Row}
use Rattle.items.specs.Items.{at}
use Rattle.items.specs.Rows.{code_of, row_of}
use Rattle.items.specs.Text.{ascii, same}
use Rattle.items.proofs.Rows.{codes_at}
use Rattle.items.proofs.Saying.{motor_code}
use Rattle.definition.specs.MainLists.{Items, motor_from}

-- codes that say which names are `motor[0]`, from field i on
sought : (names : Items) (i : ℕ) (codes : List ℕ)
    → ((j : ℕ) → j < length codes → eqb (get_or codes j 0) 3 ≡ same (at names (i + j + 2)) (ascii "motor[0]"))
    → i + position_or_len (λ c. eqb c 3) codes ≡ motor_from names i (length codes)
unfolding motor_from
sought names i [] each = omega arith
sought names i (c ∷ codes) each =
    let here : i + 0 + 2 ≡ i + 2 = omega arith in
    let on : (j : ℕ) → i + suc j + 2 ≡ suc i + j + 2 = λ j. omega arith in
    by (eqb c 3)
    (each 0 (omega arith) ∙ ap (λ k. same (at names k) (ascii "motor[0]")) here)
    (sought names (suc i) codes (λ j h. each (suc j) (omega arith) ∙ ap (λ k. same (at names k) (ascii "motor[0]")) (on j)))
  where
    by : (b : Bool) → b ≡ same (at names (i + 2)) (ascii "motor[0]")
        → suc i + position_or_len (λ c. eqb c 3) codes ≡ motor_from names (suc i) (length codes)
        → i + cond (not b) (1 + position_or_len (λ c. eqb c 3) codes) 0
        ≡ cond (same (at names (i + 2)) (ascii "motor[0]")) i (motor_from names (suc i) (length codes))
    by true e behind = rw (sym e) (omega arith)
    by false e behind = rw (sym e) (omega (arith, behind))

-- the fields' codes in a row of n items
module _ (row : Row) (n : ℕ) (le : n ≤ 64) (few : n ≤ length row.codes) where
  abbrev codes : List ℕ
  codes = take (n - min n 2) (drop (min n 2) row.codes)

  long : length codes ≡ n - 2
  long = length-take (n - min n 2) (drop (min n 2) row.codes) ∙ omega (arith, length-drop (min n 2) row.codes)

  code_at : (l : Items) → row ≡ row_of Names l → (j : ℕ) → j < length codes
      → eqb (get_or codes j 0) 3 ≡ same (at l (0 + j + 2)) (ascii "motor[0]")
  unfolding code_of
  code_at l e j h =
      let place : min n 2 + j ≡ 0 + j + 2 = omega (arith, long) in
      ap (λ c. eqb c 3)
      (get_or-take (n - min n 2) _ j 0 (omega (arith, long))
      ∙ get_or-drop (min n 2) row.codes j 0
      ∙ ap (λ k. get_or row.codes k 0) place
      ∙ ap (λ (r : Row). get_or r.codes (0 + j + 2) 0) e
      ∙ codes_at Names l (0 + j + 2) (omega (arith, long)))
      ∙ motor_code (at l (0 + j + 2))

  pub motor_is : (l : Items) → row ≡ row_of Names l → position_or_len (λ c. eqb c 3) codes ≡ motor_from l 0 (n - 2)
  motor_is l e =
      let from_0 : position_or_len (λ c. eqb c 3) codes ≡ 0 + position_or_len (λ c. eqb c 3) codes = omega arith in
      from_0 ∙ sought l 0 codes (code_at l e) ∙ ap (motor_from l 0) long
