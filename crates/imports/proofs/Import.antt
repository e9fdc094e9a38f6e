-- THE LAW THAT A HOST NEEDS: whatever buffers it lends, one after the other, it gets the rows of one walk, as many as there was room for.
use Prim.Native.Nat.{ℕ, ◌/◌, ◌<◌, ◌≤◌}
use mathlib.Core.Bool.{true}
use mathlib.Core.List.{List, [], ◌∷◌, ◌++◌}
use mathlib.Core.Path.{◌≡◌, refl, sym, ap, ap₂, ◌∙◌, subst}
use native.Mathlib.Omega.{arith}
use lib.ListN.{length, get_or, take}
use lib.Seq.{take_all}
use Rattle.plan.specs.declared.Definition.{Definition}
use Rattle.plan.specs.Sound.{sound}
use Rattle.section.specs.declared.Walk.{Walk}
use Rattle.section.specs.Refusals.{admitted}
use Rattle.section.specs.Walk.{start}
use Rattle.section.proofs.Stays.{start_admitted}
use Rattle.calls.proofs.Turns.{Kept}
use Rattle.sizes.proofs.Called.{start_sized}
use Rattle.sizes.specs.Sized.{WalkSized}
use Rattle.store.specs.Definition.{is_definition, definition_at}
use Rattle.store.specs.State.{is_state, walk_at, with_state}
use Rattle.store.proofs.KeptState.{stored_walk, stored_is_state, state_sized}
use Rattle.rows.specs.Rows.{row_length, rows_from, all_rows, joined}
use Rattle.rows.proofs.Cut.{rows_few, rows_kept, rows_more, rows_taken}
use Rattle.rows.proofs.Turns.{joined_append}
use Rattle.dulimasca.specs.Calls.{rows_of}
use Rattle.dulimasca.specs.Told.{told_length}
use Rattle.imports.specs.Imports.{imported, rooms}
use Rattle.imports.proofs.Gives.{rows_sized, gives}

-- room for as many rows as there are bytes is room for all
all_taken : (d : Definition) (s : List ℕ) (w : Walk) (k : ℕ) → length s ≤ k → take k (all_rows d s w) ≡ all_rows d s w
unfolding all_rows
all_taken d s w k h = let few = rows_few d s (length s) w in take_all k (rows_from d s (length s) w).rows (omega arith)

module _ (def s : List ℕ) (bytes : (i : ℕ) → get_or s i 0 < 256) (short : length s < 18446744073709551616) (is-def : is_definition def ≡ true) where
  abbrev d : Definition
  d = definition_at def

  -- from a walk that goes on as it should, stored as its numbers have room
  imports : (outs : List (List ℕ)) (st told : List ℕ) → told_length ≤ length told → is_state st ≡ true → Kept d s (walk_at st) → WalkSized (walk_at st) →
      imported def s outs st told ≡ joined (rows_from d s (rooms def outs) (walk_at st)).rows
  unfolding imported rooms rows_from joined
  imports [] st told told-room is kept sized = refl
  imports (out ∷ outs) st told told-room is kept sized =
      let g = gives def s bytes short st out told is-def is told-room kept sized in
      let k = length out / row_length d in
      let more = rooms def outs in
      let w = walk_at st in
      let w' = (rows_from d s k w).walk in
      let room' = subst (λ (n : ℕ). told_length ≤ n) (sym g.long) told-room in
      let kept' = subst (Kept d s) (sym g.walk) (rows_kept d s k w kept) in
      let sized' = subst WalkSized (sym g.walk) (rows_sized d s bytes short k w kept sized) in
      ap₂ ◌++◌ g.rows (imports outs (rows_of def st s out told).state (rows_of def st s out told).told room' g.is kept' sized'
      ∙ ap (λ (v : Walk). joined (rows_from d s more v).rows) g.walk)
      ∙ sym (joined_append (rows_from d s k w).rows (rows_from d s more w').rows)
      ∙ ap joined (sym (rows_more d s k more w))

  first_rows : (outs : List (List ℕ)) (st told : List ℕ) → told_length ≤ length told → is_state st ≡ true → admitted d (length s) (walk_at st) ≡ true
      → WalkSized (walk_at st) → imported def s outs st told ≡ joined (take (rooms def outs) (all_rows d s (walk_at st)))
  first_rows outs st told told-room is so sized =
      imports outs st told told-room is (record { so = so; four = sized.tally.four }) sized ∙ ap joined (rows_taken d s (walk_at st) (rooms def outs))

  -- ## From a state

  -- the bytes of the rows that come are those of the first rows of the walk
  pub import_law : (outs : List (List ℕ)) (st told : List ℕ) → told_length ≤ length told → ((i : ℕ) → get_or st i 0 < 256)
      → is_state st ≡ true → admitted (definition_at def) (length s) (walk_at st) ≡ true
      → imported def s outs st told ≡ joined (take (rooms def outs) (all_rows (definition_at def) s (walk_at st)))
  import_law outs st told told-room numbers is so = first_rows outs st told told-room is so (state_sized st numbers)

  -- with room for all, all of them
  pub import_all : (outs : List (List ℕ)) (st told : List ℕ) → told_length ≤ length told → ((i : ℕ) → get_or st i 0 < 256)
      → is_state st ≡ true → admitted (definition_at def) (length s) (walk_at st) ≡ true → length s ≤ rooms def outs
      → imported def s outs st told ≡ joined (all_rows (definition_at def) s (walk_at st))
  import_all outs st told told-room numbers is so room =
      import_law outs st told told-room numbers is so ∙ ap joined (all_taken d s (walk_at st) (rooms def outs) room)

  -- ## From the start: a state as `start` writes it into a buffer, whatever that held

  pub import_start : (outs : List (List ℕ)) (bs told : List ℕ) → told_length ≤ length told → 600 ≤ length bs → sound (definition_at def) ≡ true →
      imported def s outs (with_state start bs) told ≡ joined (take (rooms def outs) (all_rows (definition_at def) s start))
  import_start outs bs told told-room long so =
      let e = stored_walk start bs start_sized long in
      first_rows outs (with_state start bs) told told-room (stored_is_state start bs start_sized long)
      (ap (admitted d (length s)) e ∙ start_admitted d (length s) so) (subst WalkSized (sym e) start_sized)
      ∙ ap (λ (w : Walk). joined (take (rooms def outs) (all_rows d s w))) e

  pub import_whole : (outs : List (List ℕ)) (bs told : List ℕ) → told_length ≤ length told → 600 ≤ length bs → sound (definition_at def) ≡ true
      → length s ≤ rooms def outs → imported def s outs (with_state start bs) told ≡ joined (all_rows (definition_at def) s start)
  import_whole outs bs told told-room long so room = import_start outs bs told told-room long so ∙ ap joined (all_taken d s start (rooms def outs) room)
