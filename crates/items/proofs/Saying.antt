-- What single items say: when two texts are the same, which names an item can be, and which numbers.
use Prim.Native.Nat.{ℕ, zero, suc, ◌+◌, ◌-◌, ◌/◌, ◌%◌, ◌<◌, ◌≤◌}
use mathlib.Core.Bool.{Bool, true, false, cond, ◌&&◌, ◌||◌, true≢false, and-eq-true_iff, or-true}
use mathlib.Core.List.{List, [], ◌∷◌}
use Rattle.std.specs.Prelude.{Option, Some, None}
use mathlib.Core.Path.{◌≡◌, refl, sym, ap, ap₂, ◌∙◌}
use native.Mathlib.Numerals.{add-one}
use native.Mathlib.Omega.{arith}
use lib.Dec.{eqb, ltb}
use lib.ListN.{length, get_or, drop}
use lib.Seq.{drop-cons}
use borrow.Author.Tests.{eq-eqb, ne_eqb, eqb-true, ltb-true, ltb-false}
use Rattle.std.specs.Str.{bytes_eq}
use Rattle.plan.specs.Known.{among, predictors, encodings}
use Rattle.plan.proofs.Codes.{predictor_below as below_12}
use Rattle.items.specs.Rows.{name_code}
use Rattle.items.specs.Said.{decimal, number_among, predictor_of, encoding_of, unknown, numbered}
use Rattle.items.specs.Text.{ascii, same}

-- ## The same texts

pub same_equal : (s t : List ℕ) → same s t ≡ true → s ≡ t
unfolding same
same_equal [] [] e = refl
same_equal [] (y ∷ t) e = absurd (true≢false (sym e))
same_equal (x ∷ s) [] e = absurd (true≢false (sym e))
same_equal (x ∷ s) (y ∷ t) e =
    let both = (and-eq-true_iff (eqb x y) (same s t)).0 e in
    ap₂ (λ a l. a ∷ l) (eqb-true x y both.0) (same_equal s t both.1)

-- no text is the same as two different ones
pub same_one : (s t u : List ℕ) → same t u ≡ false → same s t ≡ true → same s u ≡ false
same_one s t u n e = rw (same_equal s t e) n

-- the byte at i, and what lies behind it
pub drop_step : (s : List ℕ) (i : ℕ) → i < length s → drop i s ≡ get_or s i 0 ∷ drop (i + 1) s
drop_step s i h = rw (add-one, drop-cons s i 0)

-- ## Names

-- of three tests of which at most one holds, a code says which
abbrev Coded : ℕ → Bool → Bool → Bool → Type 0
Coded n p q r = (eqb n 1 ≡ p) × (eqb n 2 ≡ q) × (eqb n 3 ≡ r)

coded : (p q r : Bool) → (p ≡ true → q ≡ false) → (p ≡ true → r ≡ false) → (q ≡ true → r ≡ false)
    → Coded (cond p 1 (cond q 2 (cond r 3 0))) p q r
coded true q r pq pr qr = (refl, sym (pq refl), sym (pr refl))
coded false true r pq pr qr = (refl, refl, sym (qr refl))
coded false false true pq pr qr = (refl, refl, refl)
coded false false false pq pr qr = (refl, refl, refl)

module _ (item : List ℕ) where
  names : Coded (name_code item) (same item (ascii "loopIteration")) (same item (ascii "time")) (same item (ascii "motor[0]"))
  unfolding name_code same
  names =
      coded (same item (ascii "loopIteration")) (same item (ascii "time")) (same item (ascii "motor[0]"))
      (same_one item (ascii "loopIteration") (ascii "time") refl)
      (same_one item (ascii "loopIteration") (ascii "motor[0]") refl)
      (same_one item (ascii "time") (ascii "motor[0]") refl)

  pub iteration_code : eqb (name_code item) 1 ≡ same item (ascii "loopIteration")
  iteration_code = names.0

  pub time_code : eqb (name_code item) 2 ≡ same item (ascii "time")
  time_code = names.1

  pub motor_code : eqb (name_code item) 3 ≡ same item (ascii "motor[0]")
  motor_code = names.2

  -- what the code's tests tell, in their order
  module _ {p : Bool} (is_p : p ≡ bytes_eq item (ascii "loopIteration")) where
    pub iteration_named : p ≡ true → 1 ≡ name_code item
    unfolding name_code same
    iteration_named e = rw (sym is_p ∙ e)

    module _ (not_p : p ≡ false) {q : Bool} (is_q : q ≡ bytes_eq item (ascii "time")) where
      pub time_named : q ≡ true → 2 ≡ name_code item
      unfolding name_code same
      time_named e = rw (sym is_p ∙ not_p, sym is_q ∙ e)

      module _ (not_q : q ≡ false) {r : Bool} (is_r : r ≡ bytes_eq item (ascii "motor[0]")) where
        pub motor_named : r ≡ true → 3 ≡ name_code item
        unfolding name_code same
        motor_named e = rw (sym is_p ∙ not_p, sym is_q ∙ not_q, sym is_r ∙ e)

        pub no_name_named : r ≡ false → 0 ≡ name_code item
        unfolding name_code same
        no_name_named e = rw (sym is_p ∙ not_p, sym is_q ∙ not_q, sym is_r ∙ e)

-- ## Numbers

abbrev every : (ℕ → Bool) → List ℕ → Bool
every p [] = true
every p (n ∷ ns) = p n && every p ns

every_among : (p : ℕ → Bool) (ns : List ℕ) (n : ℕ) → every p ns ≡ true → among ns n ≡ true → p n ≡ true
unfolding among
every_among p [] n all e = absurd (true≢false (sym e))
every_among p (m ∷ ns) n all e =
    let both = (and-eq-true_iff (p m) (every p ns)).0 all in
    either (eqb n m) refl both.0 (every_among p ns n both.1) e
  where
    either : (t : Bool) → eqb n m ≡ t → p m ≡ true → (among ns n ≡ true → p n ≡ true) → (t || among ns n) ≡ true → p n ≡ true
    either true t h f e = rw (eqb-true n m t) h
    either false t h f e = f e

-- the number that an item is, is one of those asked for, and the item is its text
pub number_among_law : (ns item : List ℕ) {n : ℕ} → number_among ns item ≡ Some n → (among ns n ≡ true) × (item ≡ decimal n)
unfolding number_among among
number_among_law [] item e = let z : ◌≡◌ {A = ℕ} 0 1 = cc in absurd (omega arith)
number_among_law (m ∷ ns) item {n} e = either (same item (decimal m)) refl (number_among_law ns item) e
  where
    either : {o : Option ℕ} (t : Bool) → same item (decimal m) ≡ t → (o ≡ Some n → (among ns n ≡ true) × (item ≡ decimal n)) → cond t (Some m) o ≡ Some n
        → ((eqb n m || among ns n) ≡ true) × (item ≡ decimal n)
    either true t f g =
        let z : n ≡ m = cc in
        rw (eq-eqb n m z, z) (refl, same_equal item (decimal m) t)
    either false t f g = let a = f g in rw a.0 (or-true (eqb n m), a.1)

module _ (item : List ℕ) {n : ℕ} where
  pub predictor_among : predictor_of item ≡ Some n → among predictors n ≡ true
  unfolding predictor_of
  predictor_among e = (number_among_law predictors item e).0

  pub predictor_below : predictor_of item ≡ Some n → n < 12
  predictor_below e = below_12 n (predictor_among e)

  pub encoding_among : encoding_of item ≡ Some n → among encodings n ≡ true
  unfolding encoding_of
  encoding_among e = (number_among_law encodings item e).0

  pub encoding_below : encoding_of item ≡ Some n → n < 10
  encoding_below e = ltb-true n 10 (every_among (λ k. ltb k 10) encodings n refl (encoding_among e))

-- ## 255 is the code of an unknown item, and of no other

not_255 : (o : Option ℕ) → ((n : ℕ) → o ≡ Some n → n < 255) → eqb (numbered o) 255 ≡ unknown o
not_255 None h = refl
not_255 (Some n) h = ne_eqb n 255 (omega (arith, h n refl))

pub predictor_unknown : (item : List ℕ) → eqb (numbered (predictor_of item)) 255 ≡ unknown (predictor_of item)
predictor_unknown item = not_255 (predictor_of item) (λ n e. omega (arith, predictor_below item e))

pub encoding_unknown : (item : List ℕ) → eqb (numbered (encoding_of item)) 255 ≡ unknown (encoding_of item)
encoding_unknown item = not_255 (encoding_of item) (λ n e. omega (arith, encoding_below item e))

never_some : (o : Option ℕ) → ((n : ℕ) → o ≡ Some n → ⊥) → 255 ≡ numbered o
never_some None h = refl
never_some (Some n) h = absurd (h n refl)

-- ## Numbers by the bytes of the item

one_byte : (s : List ℕ) {d : ℕ} → get_or s 0 0 ≡ d → length s ≡ 1 → s ≡ d ∷ []
one_byte [] p h = absurd (omega arith)
one_byte (a ∷ []) p h = ap (λ x. x ∷ []) p
one_byte (a ∷ b ∷ r) p h = absurd (omega arith)

two_bytes : (s : List ℕ) {d e : ℕ} → get_or s 0 0 ≡ d → get_or s 1 0 ≡ e → length s ≡ 2 → s ≡ d ∷ e ∷ []
two_bytes [] p q h = absurd (omega arith)
two_bytes (a ∷ r) p q h = ap₂ (λ x l. x ∷ l) p (one_byte r q (omega arith))

-- the text of a number has one digit or two
by_length : {P : Type 0} (s : List ℕ) (n : ℕ) → s ≡ decimal n
    → (n < 10 → length s ≡ 1 → get_or s 0 0 ≡ 48 + n → P)
    → (10 ≤ n → length s ≡ 2 → get_or s 0 0 ≡ 48 + n / 10 → get_or s 1 0 ≡ 48 + n % 10 → P) → P
by_length {P} s n e one two = either (ltb n 10) refl e
  where
    either : (t : Bool) → ltb n 10 ≡ t → s ≡ cond t ((48 + n) ∷ []) ((48 + n / 10) ∷ (48 + n % 10) ∷ []) → P
    either true t e = one (ltb-true n 10 t) (ap length e) (ap (λ l. get_or l 0 0) e)
    either false t e = two (ltb-false n 10 t) (ap length e) (ap (λ l. get_or l 0 0) e) (ap (λ l. get_or l 1 0) e)

-- a test that holds of 0, 1 and so on, n of them, holds of every number below n
abbrev first : ℕ → (ℕ → Bool) → Bool
first zero p = true
first (suc n) p = p 0 && first n (λ k. p (suc k))

first_below : (n : ℕ) (p : ℕ → Bool) (k : ℕ) → first n p ≡ true → k < n → p k ≡ true
first_below zero p k e h = absurd (omega arith)
first_below (suc n) p zero e h = ((and-eq-true_iff (p 0) (first n (λ k. p (suc k)))).0 e).0
first_below (suc n) p (suc k) e h = first_below n (λ k. p (suc k)) k ((and-eq-true_iff (p 0) (first n (λ k. p (suc k)))).0 e).1 (omega arith)

digit : (n : ℕ) → n < 10 → numbered (predictor_of ((48 + n) ∷ [])) ≡ n
unfolding predictor_of number_among same
digit n h = eqb-true _ n (first_below 10 (λ k. eqb (numbered (predictor_of ((48 + k) ∷ []))) k) n refl h)

module _ (s : List ℕ) where
  pub predictor_digit : 48 ≤ get_or s 0 0 → get_or s 0 0 ≤ 57 → length s ≡ 1 → get_or s 0 0 - 48 ≡ numbered (predictor_of s)
  predictor_digit le ge h = sym (ap (λ t. numbered (predictor_of t)) (one_byte s (omega arith) h) ∙ digit (get_or s 0 0 - 48) (omega arith))

  pub predictor_teen : (n : ℕ) → get_or s 0 0 ≡ 49 → get_or s 1 0 ≡ 38 + n → length s ≡ 2 → among (10 ∷ 11 ∷ []) n ≡ true → n ≡ numbered (predictor_of s)
  unfolding predictor_of number_among same
  predictor_teen n p q h a =
      sym
      (ap (λ t. numbered (predictor_of t)) (two_bytes s p q h)
      ∙ eqb-true _ n (every_among (λ k. eqb (numbered (predictor_of (49 ∷ (38 + k) ∷ []))) k) (10 ∷ 11 ∷ []) n refl a))

  -- neither a digit, nor `10` or `11`
  pub no_predictor : ((n : ℕ) → n < 10 → length s ≡ 1 → get_or s 0 0 ≡ 48 + n → ⊥)
      → ((n : ℕ) → n < 2 → length s ≡ 2 → get_or s 0 0 ≡ 49 → get_or s 1 0 ≡ 48 + n → ⊥) → 255 ≡ numbered (predictor_of s)
  unfolding predictor_of
  no_predictor one two =
      never_some (predictor_of s)
      (λ n e. by_length s n (number_among_law predictors s e).1 (one n)
      (λ le h p q. let lt : n < 12 = predictor_below s e in two (n - 10) (omega arith) h (omega arith) (omega arith)))

  pub encoding_digit : (n : ℕ) → get_or s 0 0 ≡ 48 + n → length s ≡ 1 → among encodings n ≡ true → n ≡ numbered (encoding_of s)
  unfolding encoding_of number_among same
  encoding_digit n p h a =
      sym
      (ap (λ t. numbered (encoding_of t)) (one_byte s p h)
      ∙ eqb-true _ n (every_among (λ k. eqb (numbered (encoding_of ((48 + k) ∷ []))) k) encodings n refl a))

  pub no_encoding : (length s ≡ 1 → ⊥) → 255 ≡ numbered (encoding_of s)
  unfolding encoding_of
  no_encoding h =
      never_some (encoding_of s)
      (λ n e. by_length s n (number_among_law encodings s e).1 (λ lt one p. h one) (λ le two p q. omega (arith, encoding_below s e)))

  pub other_encoding : {d : ℕ} → get_or s 0 0 ≡ d → length s ≡ 1
      → (d ≡ 48 → ⊥) × (d ≡ 49 → ⊥) × (d ≡ 51 → ⊥) × (d ≡ 54 → ⊥) × (d ≡ 55 → ⊥) × (d ≡ 56 → ⊥) × (d ≡ 57 → ⊥) → 255 ≡ numbered (encoding_of s)
  unfolding encoding_of number_among same
  other_encoding {d} p h n =
      rw (
        one_byte s p h,
        ne_eqb d 48 n.0,
        ne_eqb d 49 n.1,
        ne_eqb d 51 n.2,
        ne_eqb d 54 n.3,
        ne_eqb d 55 n.4,
        ne_eqb d 56 n.5,
        ne_eqb d 57 n.6,
      )
