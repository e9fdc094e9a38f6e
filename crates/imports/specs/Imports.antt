-- An import: one call of `rows` after another, each with a buffer of whatever length, from a state on.
use Rattle.std.specs.Prelude.{ℕ, ◌+◌, ◌*◌, ◌/◌, cond, List, [], ◌∷◌, ◌++◌, ltb, length, take}
use Rattle.plan.specs.declared.Definition.{Definition}
use Rattle.rows.specs.Rows.{row_length}
use Rattle.store.specs.Definition.{definition_at}
use Rattle.dulimasca.specs.Calls.{RowsReply, rows_of}
use Rattle.dulimasca.specs.Told.{number_told}

-- the bytes of the rows that a call wrote: so many as it tells, and none where it was refused
unfoldable pub written : Definition → RowsReply → List ℕ
written d r = cond (ltb r.answer 256) (take (number_told 6 r.told * row_length d) r.out) []

module _ (def s : List ℕ) where
  -- all the rows' bytes that a host gets which lends one buffer after the other, with the state and the bytes for the numbers as the last call left them
  unfoldable pub imported : (outs : List (List ℕ)) → (st told : List ℕ) → List ℕ
  imported [] st told = []
  imported (out ∷ outs) st told =
      written (definition_at def) (rows_of def st s out told) ++ imported outs (rows_of def st s out told).state (rows_of def st s out told).told

module _ (def : List ℕ) where
  -- for how many rows the buffers have room
  unfoldable pub rooms : (outs : List (List ℕ)) → ℕ
  rooms [] = 0
  rooms (out ∷ outs) = length out / row_length (definition_at def) + rooms outs
