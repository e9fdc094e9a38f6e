-- The ways through `dulimasca_rows`: no definition, no state, a refusal, no room for the numbers, rows and the walk behind them.
use Prim.Native.Nat.{ℕ, ◌/◌, ◌<◌, ◌≤◌}
use Rattle.std.specs.Prelude.{Ok, Err}
use Rattle.std.specs.Option.{ok_or}
use mathlib.Core.List.{List, [], ◌∷◌, ◌++◌}
use mathlib.Core.Path.{◌≡◌, sym, ap, ◌∙◌}
use lib.ListN.{length}
use lib.Seq.{sets}
use borrow.Author.Tests.{le-leb, lt-leb}
use Rattle.plan.specs.declared.Definition.{Definition}
use Rattle.reader.specs.Place.{padded}
use Rattle.section.specs.declared.Refusal.{Refusal}
use Rattle.section.specs.declared.Refusal.TheVariants.{Unsound, TooShort}
use Rattle.section.specs.declared.Walk.{Walk}
use Rattle.section.specs.Refusals.{Check}
use Rattle.rows.specs.declared.Laid.{Laid}
use Rattle.rows.specs.declared.Unlaid.{Unlaid}
use Rattle.rows.specs.Owes.{CheckOwes, NextOwes}
use Rattle.rows.specs.Rows.{Told, Rows, row_length, rows_from, checked_rows, laid_out, checked_first, next_rows}
use Rattle.rows.proofs.Checked.{check_is, next_kept}
use Rattle.store.specs.Definition.{taken_definition}
use Rattle.store.specs.State.{taken_state, with_state}
use Rattle.octets.specs.Bytes.{longs}
use Rattle.dulimasca.specs.Calls.{kept, rows_reply, checked_reply, rows_by, rows_of}
use Rattle.dulimasca.specs.Owes.{RowsOwes}
use Rattle.dulimasca.specs.Told.{packed_by, told_length, reply, status_by, tally_numbers}
use Rattle.dulimasca.proofs.Replying.{tells, packed_short}
use Rattle.dulimasca.proofs.Taken.{taken, not_taken, walk_taken, walk_not_taken}

-- what the rows' check refuses, and what it lets through without room for the numbers
refused : (c : Check) (x : Rows) (w : Walk) (st out told : List ℕ) {why : Refusal} → c ≡ Err why
    → kept st (reply (packed_by why 1) out told) ≡ checked_reply (checked_first c x w out).given (checked_first c x w out).out st out told
unfolding checked_reply checked_first
refused c x w st out told is = rw is

untold : (c : Check) (x : Rows) (w : Walk) (st out told : List ℕ) {u : Unit {0}} → c ≡ Ok u → length told < told_length
    → kept st (reply (packed_by (TooShort told_length) 1) out told) ≡ checked_reply (checked_first c x w out).given (checked_first c x w out).out st out told
unfolding checked_reply checked_first laid_out
untold c x w st out told is h = rw (is, lt-leb told_length (length told) h, packed_short told_length)

module _ (def st s out told : List ℕ) where
  pub rows_no_definition : {why : Refusal} → Err why ≡ ok_or (taken_definition def) Unsound → RowsOwes def st s out told (packed_by why 1) st out told
  unfolding rows_of packed_by
  rows_no_definition e = let p = not_taken def e in rw (p.1, p.0)

  module _ {d : Definition} (e : Ok d ≡ ok_or (taken_definition def) Unsound) where
    pub rows_no_state : {why : Refusal} → Err why ≡ ok_or (taken_state st) Unsound → RowsOwes def st s out told (packed_by why 1) st out told
    unfolding rows_of packed_by
    rows_no_state g = let p = walk_not_taken st g in rw (p.1, (taken def e).0, p.0)

    module _ {w : Walk} (g : Ok w ≡ ok_or (taken_state st) Unsound) where
      abbrev next : Told
      next = next_rows d s w out

      by_next : checked_reply next.given next.out st out told ≡ rows_of def st s out told
      unfolding rows_of rows_by
      by_next = simp ((taken def e).1, (walk_taken st g).1, (taken def e).0, (walk_taken st g).0)

      pub rows_unchecked : (why : Refusal) → CheckOwes d w (length s) (length out) (Err why) → RowsOwes def st s out told (packed_by why 1) st out told
      unfolding next_rows
      rows_unchecked why verdict =
          refused (checked_rows d w (length s) (length out)) (rows_from d s (length out / row_length d) w) w st out told (sym (check_is d w _ _ verdict))
          ∙ by_next

      pub rows_untold : (u : Unit {0}) → CheckOwes d w (length s) (length out) (Ok u) → length told < told_length
          → RowsOwes def st s out told (packed_by (TooShort told_length) 1) st out told
      unfolding next_rows
      rows_untold u verdict h =
          untold (checked_rows d w (length s) (length out)) (rows_from d s (length out / row_length d) w) w st out told (sym (check_is d w _ _ verdict)) h
          ∙ by_next

      pub rows_refused : (r : Unlaid) {out' : List ℕ} → NextOwes d w s out (Err r) out' → RowsOwes def st s out told (packed_by r.why 1) st out' told
      unfolding next_rows
      rows_refused r owes =
          let p = next_kept d s w out owes in
          ap (λ o. kept st (reply (packed_by r.why 1) o told)) p.2
          ∙ refused (checked_rows d w (length s) (length out)) (rows_from d s (length out / row_length d) w) w st out told p.0
          ∙ by_next

      pub rows_given : told_length ≤ length told → (x : Laid) {out' : List ℕ} → NextOwes d w s out (Ok x) out' → {a : ℕ} {st' xs told' : List ℕ}
          → st' ≡ with_state x.walk st → xs ≡ padded 8 (tally_numbers x.walk.tally ++ (x.count ∷ [])) → told' ≡ sets told 0 (longs xs)
          → a ≡ status_by x.walk.tally.ending → RowsOwes def st s out told a st' out' told'
      unfolding rows_reply checked_reply
      rows_given h x {out'} owes put numbers tell n =
          let all : checked_reply (Ok x) out' st out told ≡ rows_of def st s out told =
          ap (λ (y : Told). checked_reply y.given y.out st out told) owes ∙ by_next in
          (λ i. record { answer = n i; state = put i; out = out'; told = tells (tally_numbers x.walk.tally ++ (x.count ∷ [])) told numbers tell i })
          ∙ (rw (le-leb told_length (length told) h) at all)
