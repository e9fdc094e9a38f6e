-- One call of `rows`: the bytes that it wrote are those of the next rows, as many as there was room for, and the state is the walk behind them.
use Prim.Native.Nat.{ℕ, ◌+◌, ◌*◌, ◌/◌, ◌<◌, ◌≤◌}
use Rattle.std.specs.Prelude.{Err}
use mathlib.Core.Bool.{Bool, true, false, cond, false≢true}
use mathlib.Core.List.{List, [], ◌∷◌, ◌++◌}
use mathlib.Core.Path.{◌≡◌, refl, sym, ap, ◌∙◌, subst}
use native.Mathlib.Nat.{mul-le-mul_right, div-mul-le_self, div-eq_of_lt}
use native.Mathlib.Omega.{arith}
use lib.Dec.{leb}
use lib.ListN.{length, get_or, take, drop, length-take}
use lib.Seq.{sets, sets-eq, take_at}
use borrow.Author.Tests.{lt-ltb, le-ltb, le-leb, lt-leb, leb-true, leb-false}
use Rattle.bits.proofs.Laws.{by_test}
use Rattle.plan.specs.declared.Definition.{Definition}
use Rattle.section.specs.Refusals.{Check, pass}
use Rattle.section.specs.declared.Refusal.TheVariants.{TooShort, Unsound}
use Rattle.section.specs.declared.Walk.{Walk}
use Rattle.calls.proofs.Turns.{Kept, called_kept}
use Rattle.sizes.proofs.Called.{called_sized}
use Rattle.sizes.specs.Sized.{WalkSized}
use Rattle.store.specs.Definition.{is_definition, definition_at}
use Rattle.store.specs.State.{is_state, walk_at}
use Rattle.store.proofs.KeptState.{stored_walk, stored_is_state}
use Rattle.rows.specs.Rows.{row_length, rows_from, all_rows, joined, checked_rows, laid_out, checked_first, next_rows}
use Rattle.rows.proofs.Cut.{rows_few, rows_long, rows_taken}
use Rattle.rows.proofs.Turns.{rows_by_law}
use Rattle.dulimasca.specs.Calls.{RowsReply, rows_reply, checked_reply, rows_by, rows_of}
use Rattle.dulimasca.specs.Told.{packed, packed_by, told_length, number_told, tally_numbers}
use Rattle.dulimasca.proofs.Hearing.{telling_long, told_number}
use Rattle.dulimasca.proofs.Packing.{refused_from_256}
use Rattle.dulimasca.proofs.Strict.{status_small}
use Rattle.imports.specs.Imports.{written}

-- ## What is read out of what was lent

-- what stands in front of a buffer is taken back
take_back : (out bs : List ℕ) (k : ℕ) → length bs ≡ k → k ≤ length out → take k (sets out 0 bs) ≡ bs
take_back out bs k e h = ap (take k) (sets-eq bs out 0 (omega arith)) ∙ take_at bs (drop (0 + length bs) out) k e

state_short : (st : List ℕ) → length st < 600 → is_state st ≡ false
unfolding is_state
state_short st h = rw (lt-leb 600 (length st) h)

pub state_long : (st : List ℕ) → is_state st ≡ true → 600 ≤ length st
state_long st is = by_long (leb 600 (length st)) refl
  where
    by_long : (b : Bool) → leb 600 (length st) ≡ b → 600 ≤ length st
    by_long true t = leb-true 600 (length st) t
    by_long false t = absurd (false≢true (sym (state_short st (leb-false 600 (length st) t)) ∙ is))

-- a reply gives the next k rows of a walk, and the bytes for the numbers back as many as they were
pub record Gives (d : Definition) (s told : List ℕ) (k : ℕ) (w : Walk) (r : RowsReply) : Type 0 where
  pub rows : written d r ≡ joined (rows_from d s k w).rows
  pub walk : walk_at r.state ≡ (rows_from d s k w).walk
  pub is : is_state r.state ≡ true
  pub long : length r.told ≡ length told

module _ (d : Definition) (s : List ℕ) (bytes : (i : ℕ) → get_or s i 0 < 256) (short : length s < 18446744073709551616) where
  -- the numbers of the walk behind some rows keep to their room
  pub rows_sized : (k : ℕ) (w : Walk) → Kept d s w → WalkSized w → WalkSized (rows_from d s k w).walk
  rows_sized =
      rows_by_law d s (λ k w x. Kept d s w → WalkSized w → WalkSized x.walk) (λ w h z. z) (λ k w e h z. called_sized d s bytes short w h.so z)
      (λ k w x e sized h z. sized (called_kept d s w h) (called_sized d s bytes short w h.so z))

  -- no more rows than bytes, so that their number is one of 64 bits
  rows_counted : (k : ℕ) (w : Walk) → length (rows_from d s k w).rows < 18446744073709551616
  unfolding all_rows
  rows_counted k w =
      let few = rows_few d s (length s) w in
      let most = length-take k (rows_from d s (length s) w).rows in
      rw (rows_taken d s w k) (omega arith)

  module _ (st out told : List ℕ) (kept : Kept d s (walk_at st)) (sized : WalkSized (walk_at st)) (is : is_state st ≡ true)
      (told-room : told_length ≤ length told) where
    abbrev w : Walk
    w = walk_at st

    abbrev k : ℕ
    k = length out / row_length d

    -- the reply by the verdict
    abbrev by : Check → RowsReply
    by c = let x = checked_first c (rows_from d s k w) w out in checked_reply x.given x.out st out told

    given : RowsReply
    given = let x = rows_from d s k w in rows_reply (record { count = length x.rows; walk = x.walk }) (sets out 0 (joined x.rows)) st told

    there : given ≡ by pass
    unfolding checked_reply checked_first laid_out given
    there = simp (le-leb told_length (length told) told-room)

    rows_written : written d given ≡ joined (rows_from d s k w).rows
    unfolding rows_reply written tally_numbers given
    rows_written =
        let x = rows_from d s k w in
        let n = length x.rows * row_length d in
        let a : n ≤ k * row_length d = mul-le-mul_right (row_length d) (rows_few d s k w) in
        let b : k * row_length d ≤ length out = div-mul-le_self (length out) (row_length d) in
        let seventh = told_number (tally_numbers x.walk.tally ++ (length x.rows ∷ [])) told 6 told-room (omega arith) (rows_counted k w) in
        ap (λ q. cond q (take (number_told 6 given.told * row_length d) given.out) []) (lt-ltb given.answer 256 (status_small x.walk.tally.ending))
        ∙ ap (λ (c : ℕ). take (c * row_length d) (sets out 0 (joined x.rows))) seventh
        ∙ take_back out (joined x.rows) n (rows_long d s k w) (omega arith)

    gives_full : Gives d s told k w (by pass)
    unfolding rows_reply given
    gives_full =
        let x = rows_from d s k w in
        let z = rows_sized k w kept sized in
        subst (Gives d s told k w) there
        (record {
          rows = rows_written;
          walk = stored_walk x.walk st z (state_long st is);
          is = stored_is_state x.walk st z (state_long st is);
          long = telling_long (tally_numbers x.walk.tally ++ (length x.rows ∷ [])) told;
        })

    gives_none : length out < row_length d → Gives d s told k w (by (Err (TooShort (row_length d))))
    unfolding checked_first checked_reply packed_by written rows_from joined
    gives_none h =
        let none : k ≡ 0 = div-eq_of_lt h in
        let code = packed 11 (1 * row_length d) 0 in
        record {
          rows =
              ap (λ q. cond q (take (number_told 6 told * row_length d) out) []) (le-ltb code 256 (refused_from_256 11 (1 * row_length d) 0))
              ∙ ap (λ (c : ℕ). joined (rows_from d s c w).rows) (sym none);
          walk = ap (λ (c : ℕ). (rows_from d s c w).walk) (sym none);
          is = is;
          long = refl;
        }

    gives_by : Gives d s told k w (rows_by d w st s out told)
    unfolding rows_by next_rows checked_rows
    gives_by =
        let verdict : Bool → Check = λ q. cond q (cond (leb (row_length d) (length out)) pass (Err (TooShort (row_length d)))) (Err Unsound) in
        subst (λ (q : Bool). Gives d s told k w (by (verdict q))) (sym kept.so)
        (by_test (λ (c : Check). Gives d s told k w (by c)) (leb (row_length d) (length out)) (λ t. gives_full)
        (λ t. gives_none (leb-false (row_length d) (length out) t)))

-- ONE CALL GIVES THE NEXT ROWS
pub gives : (def s : List ℕ) (bytes : (i : ℕ) → get_or s i 0 < 256) (short : length s < 18446744073709551616) (st out told : List ℕ)
    → is_definition def ≡ true → is_state st ≡ true → told_length ≤ length told → Kept (definition_at def) s (walk_at st) → WalkSized (walk_at st)
    → Gives (definition_at def) s told (length out / row_length (definition_at def)) (walk_at st) (rows_of def st s out told)
unfolding rows_of
gives def s bytes short st out told is-def is told-room kept sized =
    rw (is-def, is) (gives_by (definition_at def) s bytes short st out told kept sized is told-room)
