-- Rows cut to the fields of a definition: room i holds what item i + first says, up to item n, and 0 behind.
use Rattle.std.proofs.Common.{◌≡◌, ℕ, ◌+◌, ◌-◌, ◌<◌, ◌≤◌, min, cond, List, ◌++◌}
use Rattle.std.proofs.Common.{length, get_or, take, drop, replicate, refl, ap, ◌∙◌, length-append, length-drop, arith}
use Rattle.std.proofs.lemmas.List.{get_or_append_left, get_or-append_right, get_or-take, get_or-drop, get_or-replicate, length-replicate}
use native.Mathlib.Decide.{dec_lt}
use lib.Dec.{ltb}
use lib.ListN.{length-take}
use borrow.Author.Tests.{lt-ltb, le-ltb}
use Rattle.items.specs.declared.Of.{Of}
use Rattle.items.specs.declared.Row.{Row}
use Rattle.items.specs.Items.{at}
use Rattle.items.specs.Rows.{code_of, row_of}
use Rattle.items.specs.Table.{table}
use Rattle.items.proofs.Rows.{codes_at}
use Rattle.items.proofs.Tables.{table_same, table_of}
use Rattle.definition.specs.MainLists.{Items, fields_from}
use Rattle.definition.specs.Rows.{cut_to}

-- the items of a row from `first` up to n, and zeros behind them, in `rooms` rooms
module _ (first rooms n : ℕ) (row : Row) (in-row : n ≤ length row.codes) (in-rooms : n ≤ first + rooms) where
  abbrev copied : List ℕ
  copied = take (n - min first n) (drop (min first n) row.codes)

  copied_length : length copied ≡ n - first
  copied_length = length-take (n - min first n) (drop (min first n) row.codes) ∙ omega (arith, length-drop (min first n) row.codes)

  abbrev laid : List ℕ
  laid = copied ++ drop (length copied) (replicate rooms 0)

  laid_length : length laid ≡ rooms
  laid_length =
      let zeros = replicate {A = ℕ} rooms 0 in
      omega (arith, length-append copied (drop (length copied) zeros), length-drop (length copied) zeros, length-replicate {A = ℕ} rooms 0, copied_length)

  laid_at : (i : ℕ) → i < rooms → get_or laid i 0 ≡ cond (ltb (i + first) n) (get_or row.codes (i + first) 0) 0
  laid_at i h = by (dec_lt (i + first) n)
    where
      by : Dec (i + first < n) → get_or laid i 0 ≡ cond (ltb (i + first) n) (get_or row.codes (i + first) 0) 0
      by (yes lt) =
          let here : min first n + i ≡ i + first = omega arith in
          rw (lt-ltb (i + first) n lt)
          (get_or_append_left copied _ 0 i (omega (arith, copied_length)) ∙ get_or-take (n - min first n) _ i 0 (omega arith)
          ∙ get_or-drop (min first n) row.codes i 0 ∙ ap (λ k. get_or row.codes k 0) here)
      by (no ge) =
          rw (le-ltb (i + first) n (omega arith))
          (get_or-append_right copied _ (length copied) i 0 refl (omega (arith, copied_length))
          ∙ get_or-drop (length copied) (replicate rooms 0) (i - length copied) 0
          ∙ get_or-replicate rooms (length copied + (i - length copied)) 0 0 (omega (arith, copied_length)))

  pub laid_is : laid ≡ cut_to first rooms n row
  laid_is = table_of laid 0 ∙ ap (λ m. table m (λ i. get_or laid i 0)) laid_length ∙ table_same rooms _ _ laid_at

-- the rooms of a row's first n items are what the items say
pub laid_fields : (first rooms : ℕ) {row : Row} {n : ℕ} (of : Of) (l : Items) → row ≡ row_of of l → n ≤ 64
    → cut_to first rooms n row ≡ fields_from first rooms n (code_of of) l
unfolding fields_from
laid_fields first rooms {row} {n} of l e le = table_same rooms _ _ (λ i _. by i (dec_lt (i + first) n))
  where
    by : (i : ℕ) → Dec (i + first < n)
        → cond (ltb (i + first) n) (get_or row.codes (i + first) 0) 0 ≡ cond (ltb (i + first) n) (code_of of (at l (i + first))) 0
    by i (yes lt) =
        ap (λ x. cond (ltb (i + first) n) x 0)
        (ap (λ (r : Row). get_or r.codes (i + first) 0) e ∙ codes_at of l (i + first) (omega arith))
    by i (no ge) = rw (le-ltb (i + first) n (omega arith))
