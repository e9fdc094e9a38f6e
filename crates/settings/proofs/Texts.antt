-- The value of a line, by the tests that the code makes: its parts, and the numbers in it.
use Prim.Native.Nat.{ℕ, ◌+◌, ◌^◌, ◌<◌, ◌≤◌}
use mathlib.Core.Bool.{Bool, true, false, cond, ◌&&◌, true≢false}
use mathlib.Core.List.{List, [], ◌∷◌}
use mathlib.Core.Path.{◌≡◌, refl, sym, ap, ap₂, ◌∙◌}
use native.Mathlib.Omega.{arith}
use lib.Dec.{eqb, leb, ltb}
use lib.ListN.{length, drop, take, drop_of_length-le}
use borrow.Author.Tests.{le-leb, lt-leb, lt-ltb, le-ltb, leb-true, ltb-false}
use Rattle.items.specs.Text.{ascii}
use Rattle.std.specs.Prelude.{Option, Some, None, MatchOption}
use Rattle.std.specs.Option.{option_and_then, unwrap_or}
use Rattle.std.specs.Cmp.Lexicographic.{pointwise}
use Rattle.std.proofs.lemmas.Option.{cond_some, none-some}
use denote.Ref.{Bor}
use Rattle.digits.specs.Digits.{before, digits, value_from, written, decimal_of}
use Rattle.settings.specs.declared.Ratio.{Ratio}
use Rattle.settings.specs.Texts.{up_to, number_of, front, back, unplussed, header_number_of, first_of_two}
use Rattle.settings.specs.Texts.{number32, fraction_of, over, ratio_of}

-- ## Parts of a text

-- where there is no byte at the place, nothing is behind it
pub none_behind : (s : List ℕ) (at : ℕ) → length s ≤ at → take 0 s ≡ drop (at + 1) s
none_behind s at h = let over : length s ≤ at + 1 = omega arith in rw (drop_of_length-le s over)

plus_not : (s : List ℕ) → pointwise eqb (take 1 s) (43 ∷ []) ≡ false → s ≡ unplussed s
unfolding unplussed
plus_not [] h = refl
plus_not (b ∷ s) h = by (eqb b 43) h
  where
    by : (q : Bool) → (q && true) ≡ false → b ∷ s ≡ cond q s (b ∷ s)
    by true e = absurd (true≢false e)
    by false e = refl

plus_here : (s : List ℕ) → pointwise eqb (take 1 s) (43 ∷ []) ≡ true → drop 1 s ≡ unplussed s
unfolding unplussed
plus_here [] h = refl
plus_here (b ∷ s) h = by (eqb b 43) h
  where
    by : (q : Bool) → (q && true) ≡ true → s ≡ cond q s (b ∷ s)
    by true e = refl
    by false e = absurd (true≢false (sym e))

-- `r` is what the library finds behind a `+`
pub plus_by : (s : Bor (List ℕ)) (r : Option (Bor (List ℕ)))
    → MatchOption r (pointwise eqb (take 1 s.now) (43 ∷ []) ≡ false)
    (λ x. (pointwise eqb (take 1 s.now) (43 ∷ []) ≡ true) × (x.now ≡ drop 1 s.now) × (length x.now + 1 ≡ length s.now))
    → (unwrap_or r s).now ≡ unplussed s.now
plus_by s None h = plus_not s.now h
plus_by s (Some x) h = h.1 ∙ plus_here s.now h.0

-- ## Numbers

-- `t` is the text without its `+`
module _ (largest : ℕ) (s : List ℕ) {t : List ℕ} (plus : t ≡ unplussed s) where
  number_by : {x : Option ℕ} → x ≡ decimal_of t → up_to largest x ≡ number_of largest s
  unfolding number_of
  number_by read = ap (up_to largest) (read ∙ ap decimal_of plus)

  pub number_none : None ≡ decimal_of t → None ≡ number_of largest s
  number_none read = number_by read

  pub number_large : {n : ℕ} → Some n ≡ decimal_of t → largest < n → None ≡ number_of largest s
  number_large {n} read h = rw (lt-leb n largest h) at (number_by read)

  pub number_fits : {n : ℕ} → Some n ≡ decimal_of t → n ≤ largest → Some n ≡ number_of largest s
  number_fits {n} read h = rw (le-leb n largest h) at (number_by read)

up_to_law : (largest n : ℕ) (x : Option ℕ) → up_to largest x ≡ Some n → n ≤ largest
up_to_law largest n None e = absurd (none-some n e)
up_to_law largest n (Some m) e = let both = cond_some (leb m largest) m n e in omega (arith, leb-true m largest both.0, both.1)

-- what is read is no larger
pub number_le : (largest : ℕ) (s : List ℕ) {n : ℕ} → Some n ≡ number_of largest s → n ≤ largest
unfolding number_of
number_le largest s {n} read = up_to_law largest n (decimal_of (unplussed s)) (sym read)

-- below 2 ^ 64 the largest is the only limit: that of places never shows
module _ (largest b : ℕ) (s t : List ℕ) (small : largest < 2 ^ 64) (plus : unplussed t ≡ b ∷ s) where
  limit_by : (p q : Bool) → ltb (value_from 0 (b ∷ s)) (2 ^ 64) ≡ q
      → up_to largest (cond (p && q) (Some (value_from 0 (b ∷ s))) None) ≡ cond (p && leb (value_from 0 (b ∷ s)) largest) (Some (value_from 0 (b ∷ s))) None
  limit_by false q e = refl
  limit_by true true e = refl
  limit_by true false e =
      let over : largest < value_from 0 (b ∷ s) = omega (arith, ltb-false (value_from 0 (b ∷ s)) (2 ^ 64) e) in
      rw (lt-leb (value_from 0 (b ∷ s)) largest over)

  pub number_is : number_of largest t ≡ cond (digits (b ∷ s) && leb (value_from 0 (b ∷ s)) largest) (Some (value_from 0 (b ∷ s))) None
  unfolding number_of decimal_of written
  number_is = rw plus (limit_by (digits (b ∷ s)) (ltb (value_from 0 (b ∷ s)) (2 ^ 64)) refl)

-- ## Header numbers

-- an empty text says none
pub header_none : header_number_of [] ≡ None
unfolding header_number_of unplussed number_of decimal_of
header_none = refl

pub two_none : first_of_two [] ≡ None
unfolding first_of_two before header_number_of unplussed number_of decimal_of
two_none = refl

-- the comma stands at `n`, and `t` behind it
module _ (s : List ℕ) {n : ℕ} {t : List ℕ} (comma : n ≡ before 44 s) (behind : t ≡ drop (n + 1) s) where
  second : header_number_of t ≡ header_number_of (back 44 s)
  second = ap header_number_of (behind ∙ ap (λ m. drop (m + 1) s) comma)

  pub second_absent : None ≡ header_number_of t → None ≡ first_of_two s
  unfolding first_of_two
  second_absent e = ap (option_and_then (λ m. header_number_of (front 44 s))) (e ∙ second)

  pub second_given : {m : ℕ} {x : Option ℕ} → Some m ≡ header_number_of t → x ≡ header_number_of (take n s) → x ≡ first_of_two s
  unfolding first_of_two
  second_given e f = f ∙ ap₂ (λ x y. option_and_then (λ m. x) y) (ap (λ m. header_number_of (take m s)) comma) (e ∙ second)

-- ## Intervals

module _ (above below : List ℕ) where
  pub fraction_above : None ≡ number32 above → None ≡ fraction_of (number32 above) (number32 below)
  fraction_above e = ap (λ n. fraction_of n (number32 below)) e

  pub fraction_below : {n : ℕ} → Some n ≡ number32 above → None ≡ number32 below → None ≡ fraction_of (number32 above) (number32 below)
  fraction_below e f = ap₂ fraction_of e f

  pub fraction_both : {n d : ℕ} → Some n ≡ number32 above → Some d ≡ number32 below
      → Some (record { numerator = n; denominator = d }) ≡ fraction_of (number32 above) (number32 below)
  fraction_both e f = ap₂ fraction_of e f

one_read : number32 (ascii "1") ≡ Some 1
unfolding number32 number_of unplussed decimal_of written digits value_from
one_read = refl

-- `n` is where the slash stands, or the length of the text, and `r` what is read
module _ (s : List ℕ) {n : ℕ} {r : Option Ratio} (slash : n ≡ before 47 s) where
  pub ratio_parted : {t : List ℕ} → t ≡ drop (n + 1) s → r ≡ fraction_of (number32 (take n s)) (number32 t) → n < length s
      → unwrap_or r (record { numerator = 0; denominator = 0 }) ≡ ratio_of s
  unfolding ratio_of
  ratio_parted e f h =
      let there : before 47 s < length s = omega arith in
      ap (λ x. unwrap_or x (record { numerator = 0; denominator = 0 })) f
      ∙ ap₂ (λ t u. over (number32 t) (number32 u)) (ap (λ m. take m s) slash) (e ∙ ap (λ m. drop (m + 1) s) slash)
      ∙ rw (lt-ltb (before 47 s) (length s) there)

  pub ratio_alone : r ≡ fraction_of (number32 (ascii "1")) (number32 s) → length s ≤ n → unwrap_or r (record { numerator = 0; denominator = 0 }) ≡ ratio_of s
  unfolding ratio_of
  ratio_alone f h =
      let none : length s ≤ before 47 s = omega arith in
      ap (λ x. unwrap_or x (record { numerator = 0; denominator = 0 })) f
      ∙ ap (λ x. over x (number32 s)) one_read ∙ rw (le-ltb (before 47 s) (length s) none)
