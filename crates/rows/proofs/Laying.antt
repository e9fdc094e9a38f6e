-- Rows laid one behind the other: what is known behind so many of them, how a call that accepts a frame lays one more, and what the last one leaves.
use Prim.Native.Nat.{ℕ, suc, ◌+◌, ◌-◌, ◌*◌, ◌/◌, ◌<◌, ◌≤◌}
use mathlib.Core.Bool.{Bool, true, false}
use mathlib.Core.List.{List, [], ◌∷◌, ◌++◌, append_assoc, append-nil}
use Rattle.std.specs.Prelude.{Ok}
use mathlib.Core.Path.{◌≡◌, refl, sym, ap, ap₂, ◌∙◌}
use native.Mathlib.Nat.{suc-mul, zero-mul, mul-le-mul_right, div-mul-le_self}
use native.Mathlib.Numerals.{add-one}
use native.Mathlib.Omega.{arith}
use lib.ListN.{length, replicate, length-append}
use lib.Seq.{sets}
use Rattle.plan.specs.declared.Definition.{Definition}
use Rattle.section.specs.declared.Walk.{Walk}
use Rattle.section.specs.Answers.{is_over}
use Rattle.octets.proofs.Stores.{then_put}
use Rattle.calls.specs.declared.Called.{Called}
use Rattle.calls.specs.Call.{called}
use Rattle.calls.specs.Steps.{Steps}
use Rattle.calls.proofs.Turns.{answer_is, walk_is, values_are}
use Rattle.rows.specs.Rows.{Row, Rows, Told, width, row_length, row_for, row_bytes, row_of, in_front, rows_from, joined, told, laid_out}
use Rattle.rows.proofs.OneRow.{length_row_of}
use Rattle.rows.proofs.Turns.{joined_append, joined_one, rows_over, rows_on}

-- ## Room for one more

module _ (count room size len : ℕ) (h : count < room) (e : room ≡ len / size) where
  pub row_fits : count * size + size ≤ len
  row_fits =
      let m : suc count * size ≤ room * size = mul-le-mul_right size h in
      let d : room * size ≤ len = rw e (div-mul-le_self len size) in
      omega (arith, m, d, suc-mul count size)

pub at_more : (count size : ℕ) → count * size + size ≡ (count + 1) * size
at_more count size = rw (add-one, suc-mul)

pub row_size : (d : Definition) {size n : ℕ} → size ≡ row_length d → n ≡ width d → size ≡ 24 + 4 * n
unfolding row_length
row_size d e f = e ∙ ap (λ n. 24 + 4 * n) (sym f)

-- ## Behind so many rows

abbrev pub gives : (count : ℕ) → Walk → (out : List ℕ) → Told
gives count w out = told (Ok (record { count = count; walk = w })) out

abbrev before : List (List ℕ) → Rows → Rows
before rs x = record { rows = rs ++ x.rows; walk = x.walk }

pub record Laying (d : Definition) (s out₀ : List ℕ) (w₀ : Walk) (room size : ℕ) (out : List ℕ) (w : Walk) (count : ℕ) : Type 0 where
  pub done : List (List ℕ)
  pub many : length done ≡ count
  pub long : length (joined done) ≡ count * size
  pub wrote : out ≡ sets out₀ 0 (joined done)
  pub rest : rows_from d s (length out₀ / row_length d) w₀ ≡ before done (rows_from d s (room - count) w)

module _ (d : Definition) (s out₀ : List ℕ) (w₀ : Walk) where
  -- the room is given by the length of a row as the code has it
  pub laying_first : {size : ℕ} → size ≡ row_length d → Laying d s out₀ w₀ (length out₀ / size) size out₀ w₀ 0
  unfolding joined
  laying_first {size} e =
      let room = length out₀ / size in
      record {
        done = [];
        many = refl;
        long = sym (zero-mul size);
        wrote = refl;
        rest = ap (λ k. rows_from d s k w₀) (ap (λ z. length out₀ / z) (sym e) ∙ (let q : room ≡ room - 0 = omega arith in q));
      }

  module _ {room size : ℕ} {out : List ℕ} {w : Walk} {count : ℕ} (l : Laying d s out₀ w₀ room size out w count) where
    -- what is laid in all
    abbrev all : Told
    all = laid_out (rows_from d s (length out₀ / row_length d) w₀) out₀

    -- where no row follows
    ended : {v : Walk} (x : Rows) → rows_from d s (room - count) w ≡ x → x ≡ record { rows = []; walk = v }
        → gives count v out ≡ all
    unfolding laid_out
    ended {v} x e f =
        let is : rows_from d s (length out₀ / row_length d) w₀ ≡ record { rows = l.done; walk = v } =
        l.rest ∙ ap (before l.done) (e ∙ f) ∙ ap (λ rs. record { rows = rs; walk = v }) (append-nil l.done) in
        ap₂ (λ k o. gives k v o) (sym l.many) l.wrote ∙ ap (λ y. laid_out y out₀) (sym is)

    pub laying_full : room ≡ count → gives room w out ≡ all
    unfolding rows_from
    laying_full h =
        ap (λ k. gives k w out) h
        ∙ ended (rows_from d s 0 w) (ap (λ k. rows_from d s k w) (let q : room - count ≡ 0 = omega arith in q)) refl

    module _ {values after : List ℕ} {r : Called} (st : Steps d w s values r after) (h : count < room) where
      pub laying_over : {q : Bool} → q ≡ is_over r.looked.answer → q ≡ true
          → gives count r.looked.walk out ≡ all
      laying_over asked e =
          ended (rows_from d s (room - count) w) refl
          (rows_over d s w (room - count) (omega arith) (ap is_over (sym (answer_is d s st)) ∙ sym asked ∙ e)
          ∙ ap (λ v. record { rows = []; walk = v }) (sym (walk_is d s st)))

      module _ (zeros : values ≡ replicate 62 0) {n : ℕ} (wide : n ≡ width d) {shown : Row} (shows : shown ≡ row_for r.looked.answer after) where
        row_is : row_bytes n shown ≡ row_of d (called d s w)
        unfolding row_of
        row_is =
            ap₂ row_bytes wide (shows ∙ ap₂ row_for (answer_is d s st) (values_are d s st ∙ ap (λ vs. sets vs 0 (called d s w).fields) zeros))

        pub laying_more : {q : Bool} {out' : List ℕ} → q ≡ is_over r.looked.answer → q ≡ false → out' ≡ sets out (count * size) (row_bytes n shown)
            → size ≡ row_length d → Laying d s out₀ w₀ room size out' r.looked.walk (count + 1)
        laying_more asked e put long =
            let one = row_of d (called d s w) in
            let next = rows_from d s (room - (count + 1)) (called d s w).walk in
            let bytes : joined (l.done ++ (one ∷ [])) ≡ joined l.done ++ one =
            joined_append l.done (one ∷ []) ∙ ap (λ x. joined l.done ++ x) (joined_one one) in
            let stored = put ∙ ap (sets out (count * size)) row_is in
            let sum = ap₂ ◌+◌ l.long (length_row_of d (called d s w) ∙ sym long) in
            let on : rows_from d s (room - count) w ≡ in_front one next =
            ap (λ k. rows_from d s k w) (let q : room - count ≡ suc (room - (count + 1)) = omega arith in q)
            ∙ rows_on d s w (room - (count + 1)) (ap is_over (sym (answer_is d s st)) ∙ sym asked ∙ e) in
            record {
              done = l.done ++ (one ∷ []);
              many = length-append l.done (one ∷ []) ∙ ap (λ k. k + 1) l.many;
              long = ap length bytes ∙ length-append (joined l.done) one ∙ sum ∙ at_more count size;
              wrote = then_put out₀ 0 (joined l.done) one l.wrote stored (omega (arith, l.long)) ∙ ap (sets out₀ 0) (sym bytes);
              rest =
                  l.rest ∙ ap (before l.done) on
                  ∙ ap (λ rs. record { rows = rs; walk = next.walk }) (sym (append_assoc l.done (one ∷ []) next.rows))
                  ∙ ap (λ v. before (l.done ++ (one ∷ [])) (rows_from d s (room - (count + 1)) v)) (sym (walk_is d s st));
            }

-- of a walk that is taken apart and put together again
pub laid_whole : (d : Definition) (s out₀ : List ℕ) (k : ℕ) {w₀ w : Walk} → w₀ ≡ w → {count : ℕ} {out : List ℕ} {v v' : Walk} → v' ≡ v
    → gives count v out ≡ laid_out (rows_from d s k w₀) out₀
    → gives count v' out ≡ laid_out (rows_from d s k w) out₀
laid_whole d s out₀ k whole {count} {out} same e =
    ap (λ v. gives count v out) same ∙ e ∙ ap (λ w. laid_out (rows_from d s k w) out₀) whole
