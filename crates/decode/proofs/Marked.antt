-- Encoding 6 field by field: what the loop of `marked_fields` has in hand, and each way on from there.
use Prim.Native.Nat.{ℕ, zero, suc, ◌+◌, ◌-◌, ◌/◌, ◌%◌, ◌^◌, ◌≤◌, ◌<◌}
use mathlib.Core.List.{List, ◌∷◌, map}
use mathlib.Core.Path.{◌≡◌, refl, sym, ap, ap₂, ◌∙◌}
use native.Mathlib.Nat.{pow-suc}
use native.Mathlib.Numerals.{add-one}
use native.Mathlib.Omega.{arith}
use lib.Count.{ones, ones_step, ones-le}
use lib.IntN.{ℤ, pos}
use lib.ListN.{length, get_or, set, replicate, length-set}
use lib.Seq.{sets, set-get_or, get_or-set_other}
use Rattle.std.specs.Prelude.{Result, Ok, Err}
use Rattle.bits.specs.Pattern.{wrap, pattern}
use Rattle.reader.specs.declared.Cursor.{Cursor}
use Rattle.reader.specs.declared.Fault.{Fault}
use Rattle.reader.specs.declared.Fault.TheVariants.{Cut, Corrupt}
use Rattle.reader.specs.declared.Group.{Group}
use Rattle.reader.specs.Got.{Spent, nothing, Got, got, cut, corrupt, over, after, onward, ◌>>=◌, give}
use Rattle.reader.specs.Place.{rest, on, read_at, no_values, group_at}
use Rattle.reader.proofs.Reading.{ok_parts, onward_give, onward_got, on_both, on_nothing, give_onward}
use Rattle.decode.specs.TaggedVariable.{marked, fields}
use Rattle.decode.specs.Variable.{encoding0}

-- ## A field, by its bit

module _ (s : List ℕ) (c : Cursor) where
  pub unmarked : {bit : ℕ} → bit ≡ 0 → Ok (0, c) ≡ read_at c (over pattern (marked bit (rest c s)))
  unfolding marked give over read_at pattern wrap
  unmarked e = rw (e, on_nothing c)

  pub is_marked : (bit : ℕ) {r : Result (ℕ × Cursor) Fault} → r ≡ read_at c (over pattern (encoding0 (rest c s)))
      → (bit ≡ 0 → ⊥) → r ≡ read_at c (over pattern (marked bit (rest c s)))
  unfolding marked
  is_marked zero e h = absurd (h refl)
  is_marked (suc k) e h = e

-- ## Fields laid over the values `vs` from index i on

unfoldable pub laid_at : List ℕ → ℕ → Cursor → Got (List ℤ) → Group
laid_at vs i c (got zs u) = record { step = Ok (on c u); values = sets vs i (map pattern zs) }
laid_at vs i c cut = no_values (Err Cut)
laid_at vs i c corrupt = no_values (Err Corrupt)

laid_after : (vs : List ℕ) (i : ℕ) (c : Cursor) (u : Spent) (g : Got (List ℤ)) → laid_at vs i c (after u g) ≡ laid_at vs i (on c u) g
unfolding laid_at after
laid_after vs i c u (got zs v) = λ j. record { step = Ok (on_both c u v j); values = sets vs i (map pattern zs) }
laid_after vs i c u cut = refl
laid_after vs i c u corrupt = refl

-- over zeros, from the first on: the group
laid_group : (c : Cursor) (g : Got (List ℤ)) → group_at c (over (map pattern) g) ≡ laid_at (replicate 8 0) 0 c g
unfolding group_at over laid_at
laid_group c (got zs u) = refl
laid_group c cut = refl
laid_group c corrupt = refl

-- one more value in front is one more value laid
laid_cons : (vs : List ℕ) (i : ℕ) (c : Cursor) (z : ℤ) (g : Got (List ℤ)) → laid_at vs i c (over (λ zs. z ∷ zs) g) ≡ laid_at (set vs i (pattern z)) (suc i) c g
unfolding laid_at over
laid_cons vs i c z (got zs u) = refl
laid_cons vs i c z cut = refl
laid_cons vs i c z corrupt = refl

-- ## A field and the fields behind it

module _ (s : List ℕ) (vs : List ℕ) (i : ℕ) (p : Cursor) (k bits : ℕ) where
  abbrev Behind : ℤ → List ℕ → Got (List ℤ)
  Behind z = ◌>>=◌ (fields k bits) (λ zs. give (z ∷ zs))

  field_ok : (g : Got ℤ) {v : ℕ} {q : Cursor} → Ok (v, q) ≡ read_at p (over pattern g)
      → laid_at vs i p (onward Behind (rest p s) g) ≡ laid_at (set vs i v) (suc i) q (fields k bits (rest q s))
  unfolding read_at over ◌>>=◌
  field_ok (got z u) e =
      let same = ok_parts e in
      onward_got (laid_at vs i) (laid_after vs i) Behind s p z u
      ∙ ap (laid_at vs i (on p u)) (onward_give (λ zs. z ∷ zs) (rest (on p u) s) (fields k bits (rest (on p u) s)))
      ∙ laid_cons vs i (on p u) z (fields k bits (rest (on p u) s))
      ∙ sym (ap₂ (λ x y. laid_at (set vs i x) (suc i) y (fields k bits (rest y s))) same.0 same.1)
  field_ok cut e = absurd (cc)
  field_ok corrupt e = absurd (cc)

  field_err : (g : Got ℤ) {d : Fault} → Err d ≡ read_at p (over pattern g) → no_values (Err d) ≡ laid_at vs i p (onward Behind (rest p s) g)
  unfolding read_at over onward laid_at
  field_err (got z u) e = absurd (cc)
  field_err cut {d} e = let same : d ≡ Cut = cc in rw same
  field_err corrupt {d} e = let same : d ≡ Corrupt = cc in rw same

-- ## No ones left: every field behind is 0 and takes no byte

clear_field : (k bits : ℕ) (c : List ℕ) → fields k bits c ≡ got (replicate k (pos 0)) nothing
    → ◌>>=◌ (marked 0) (λ z. ◌>>=◌ (fields k bits) (λ zs. give (z ∷ zs))) c ≡ got (replicate (suc k) (pos 0)) nothing
unfolding marked ◌>>=◌ over
clear_field k bits c e =
    give_onward (pos 0) (λ z. ◌>>=◌ (fields k bits) (λ zs. give (z ∷ zs))) c
    ∙ onward_give (λ zs. pos 0 ∷ zs) c (fields k bits c)
    ∙ ap (over (λ zs. pos 0 ∷ zs)) e

clear : (k bits : ℕ) (c : List ℕ) → ones bits ≡ 0 → fields k bits c ≡ got (replicate k (pos 0)) nothing
unfolding fields give
clear zero bits c e = refl
clear (suc k) bits c e =
    let low : bits % 2 ≡ 0 = omega (arith, ones_step bits) in
    let high : ones (bits / 2) ≡ 0 = omega (arith, ones_step bits) in
    rw low (clear_field k (bits / 2) c (clear k (bits / 2) c high))

zeros_laid : (k : ℕ) (vs : List ℕ) (i : ℕ) → ((j : ℕ) → i ≤ j → get_or vs j 0 ≡ 0) → sets vs i (map pattern (replicate k (pos 0))) ≡ vs
unfolding pattern wrap
zeros_laid zero vs i z = refl
zeros_laid (suc k) vs i z =
    let same : set vs i 0 ≡ vs = ap (set vs i) (sym (z i (omega arith))) ∙ set-get_or vs i 0 in
    ap (λ ws. sets ws (suc i) (map pattern (replicate k (pos 0)))) same ∙ zeros_laid k vs (suc i) (λ j h. z j (omega arith))

-- ## The loop

-- i fields are laid, the numbers of `left` ones are still to come, and what is laid then is the group
pub record Held (s : List ℕ) (from : Cursor) (n head : ℕ) (values : List ℕ) (next : Cursor) (bits left i : ℕ) : Type 0 where
  pub fit : (i ≤ n) × (n ≤ 8)
  pub room : length values ≡ 8
  pub few : bits < 2 ^ (n - i)
  pub to_come : left ≡ ones bits
  pub zeros : (j : ℕ) → i ≤ j → get_or values j 0 ≡ 0
  pub is : group_at from (over (map pattern) (fields n head (rest from s))) ≡ laid_at values i next (fields (n - i) bits (rest next s))

all_zeros : (k j : ℕ) → ◌≡◌ {A = ℕ} (get_or (replicate k 0) j 0) 0
all_zeros zero j = refl
all_zeros (suc k) zero = refl
all_zeros (suc k) (suc j) = all_zeros k j

pub held_first : (s : List ℕ) (from : Cursor) (n head : ℕ) → (n ≤ 8) × (head < 2 ^ n) → Held s from n head (replicate 8 0) from head (ones head) 0
held_first s from n head h =
    let none : n - 0 ≡ n = omega arith in
    record {
      fit = omega arith;
      room = refl;
      few = rw none h.1;
      to_come = refl;
      zeros = λ j _. all_zeros 8 j;
      is = rw none (laid_group from (fields n head (rest from s)));
    }

module _ {s : List ℕ} {from : Cursor} {n head : ℕ} {values : List ℕ} {next : Cursor} {bits left i : ℕ} (held : Held s from n head values next bits left i) where
  pub held_inside : 0 < left → i < n
  held_inside more = omega (arith, held.to_come, ones-le (n - i) bits held.few)

  -- the field at hand, before those behind it
  split : 0 < left → group_at from (over (map pattern) (fields n head (rest from s)))
      ≡ laid_at values i next (onward (λ z. ◌>>=◌ (fields (n - (i + 1)) (bits / 2)) (λ zs. give (z ∷ zs))) (rest next s) (marked (bits % 2) (rest next s)))
  unfolding fields ◌>>=◌
  split more =
      let one_more : n - i ≡ suc (n - (i + 1)) = omega (arith, held_inside more) in
      held.is ∙ rw one_more refl

  pub held_on : {v w : ℕ} {q : Cursor} → Ok (v, q) ≡ read_at next (over pattern (marked (bits % 2) (rest next s))) → 0 < left → w ≡ bits % 2
      → Held s from n head (set values i v) q (bits / 2) (left - w) (i + 1)
  held_on e more g =
      let one_more : n - i ≡ suc (n - (i + 1)) = omega (arith, held_inside more) in
      record {
        fit = omega (arith, held.fit, held_inside more);
        room = simp length-set held.room;
        few = omega (arith, rw (one_more, pow-suc) at held.few);
        to_come = omega (arith, held.to_come, ones_step bits);
        zeros = λ j h. get_or-set_other values i j _ 0 (omega arith) ∙ held.zeros j (omega arith);
        is = split more ∙ field_ok s values i next (n - (i + 1)) (bits / 2) (marked (bits % 2) (rest next s)) e ∙ rw (add-one i);
      }

  pub held_err : {d : Fault} → Err d ≡ read_at next (over pattern (marked (bits % 2) (rest next s))) → 0 < left
      → no_values (Err d) ≡ group_at from (over (map pattern) (fields n head (rest from s)))
  held_err e more = field_err s values i next (n - (i + 1)) (bits / 2) (marked (bits % 2) (rest next s)) e ∙ sym (split more)

  pub held_end : left ≤ 0 → ◌≡◌ {A = Group} (record { step = Ok next; values = values }) (group_at from (over (map pattern) (fields n head (rest from s))))
  unfolding laid_at
  held_end none =
      let clear-rest : fields (n - i) bits (rest next s) ≡ got (replicate (n - i) (pos 0)) nothing =
      clear (n - i) bits (rest next s) (omega (arith, held.to_come)) in
      sym
      (held.is ∙ ap (laid_at values i next) clear-rest
      ∙ (λ j. record { step = Ok (on_nothing next j); values = zeros_laid (n - i) values i held.zeros j }))
