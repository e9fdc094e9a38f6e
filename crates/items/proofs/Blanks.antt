-- Blanks around an item: how the code goes over them, and what is left of a sign item once they are trimmed.
use Prim.Native.Nat.{ℕ, suc, ◌+◌, ◌<◌, ◌≤◌}
use mathlib.Core.Bool.{Bool, true, false, cond, not, ◌&&◌, and-false}
use mathlib.Core.List.{List, [], ◌∷◌}
use mathlib.Core.Path.{◌≡◌, refl, sym, ap, ◌∙◌}
use native.Mathlib.Omega.{arith}
use lib.Dec.{eqb, eqb-zero-suc, eqb-suc-suc}
use lib.ListN.{length, get_or, drop, length-drop, drop_of_length-le}
use borrow.Author.Tests.{eq-eqb, ne_eqb, not-true, not-false}
use Rattle.items.specs.Said.{blank, trim_start, kept, trim_end, unsigned, sign_code}
use Rattle.items.specs.Text.{same}
use Rattle.items.specs.Width.{blanks}
use Rattle.items.proofs.Saying.{drop_step}

-- ## Over the blanks

-- going over the blanks from `from` has come to i
pub record Come (s : List ℕ) (from i : ℕ) : Type 0 where
  pub is : i + blanks (drop i s) ≡ from + blanks (drop from s)

pub come_here : (s : List ℕ) (from : ℕ) → Come s from from
come_here s from = record { is = refl }

module _ (s : List ℕ) (from i : ℕ) (come : Come s from i) where
  pub come_on : {b : Bool} → b ≡ blank (get_or s i 0) → not b ≡ false → i < length s → Come s from (i + 1)
  unfolding blanks
  come_on {b} e n h =
      let more : blanks (drop i s) ≡ suc (blanks (drop (i + 1) s)) = rw (drop_step s i h, sym e ∙ not-false b n) in
      record { is = omega (arith, come.is) }

  pub come_off : {b : Bool} → b ≡ blank (get_or s i 0) → not b ≡ true → i < length s → i ≡ from + blanks (drop from s)
  unfolding blanks
  come_off {b} e n h =
      let none : blanks (drop i s) ≡ 0 = rw (drop_step s i h, sym e ∙ not-true b n) in
      omega (arith, come.is)

  pub come_end : length s ≤ i → i ≡ from + blanks (drop from s)
  unfolding blanks
  come_end h =
      let none : blanks (drop i s) ≡ 0 = rw (drop_of_length-le s h) in
      omega (arith, come.is)

-- ## Trimmed

start_by : (t : Bool) (b : ℕ) (s : List ℕ) → trim_start s ≡ drop (blanks s) s → cond t (trim_start s) (b ∷ s) ≡ drop (cond t (suc (blanks s)) 0) (b ∷ s)
start_by true b s h = h
start_by false b s h = refl

trim_start_law : (s : List ℕ) → trim_start s ≡ drop (blanks s) s
unfolding trim_start blanks
trim_start_law [] = refl
trim_start_law (b ∷ s) = start_by (blank b) b s (trim_start_law s)

abbrev is_empty : List ℕ → Bool
is_empty [] = true
is_empty (x ∷ s) = false

empty_kept : (b : ℕ) (u : List ℕ) → is_empty (kept b u) ≡ (blank b && is_empty u)
empty_kept b [] = either (blank b)
  where
    either : (t : Bool) → is_empty (cond t [] (b ∷ [])) ≡ (t && true)
    either true = refl
    either false = refl
empty_kept b (c ∷ u) = sym (and-false (blank b))

more_blanks : (t : Bool) (x n : ℕ) → (t && eqb x n) ≡ eqb (cond t (suc x) 0) (suc n)
more_blanks true x n = sym (eqb-suc-suc x n)
more_blanks false x n = sym (eqb-zero-suc n)

-- a text is trimmed to nothing just if it is all blanks
all_blanks : (t : List ℕ) → is_empty (trim_end t) ≡ eqb (blanks t) (length t)
unfolding trim_end blanks
all_blanks [] = refl
all_blanks (b ∷ t) = empty_kept b (trim_end t) ∙ ap (λ q. blank b && q) (all_blanks t) ∙ more_blanks (blank b) (blanks t) (length t)

-- a `0` is left alone just if nothing is kept behind it
zero_kept : (u : List ℕ) → same (kept 48 u) (48 ∷ []) ≡ is_empty u
unfolding same blank
zero_kept [] = refl
zero_kept (c ∷ u) = refl

-- what starts with another byte is not `0`
other_kept : (b : ℕ) (u : List ℕ) → (b ≡ 48 → ⊥) → same (kept b u) (48 ∷ []) ≡ false
unfolding same
other_kept b [] n = either (blank b)
  where
    either : (t : Bool) → same (cond t [] (b ∷ [])) (48 ∷ []) ≡ false
    either true = refl
    either false = rw (ne_eqb b 48 n)
other_kept b (c ∷ u) n = rw (ne_eqb b 48 n)

-- ## A sign by its first place that is not blank

module _ (s : List ℕ) {a : ℕ} (first : a ≡ 0 + blanks s) where
  from_first : {t : List ℕ} → drop a s ≡ t → sign_code s ≡ cond (same (trim_end t) (48 ∷ [])) 0 1
  unfolding sign_code unsigned
  from_first {t} e =
      let same_place : blanks s ≡ a = omega arith in
      let there : trim_start s ≡ t = trim_start_law s ∙ rw same_place e in
      rw there

  pub sign_end : length s ≤ a → 1 ≡ sign_code s
  unfolding trim_end same
  sign_end h = sym (from_first (drop_of_length-le s h))

  pub sign_other : a < length s → (get_or s a 0 ≡ 48 → ⊥) → 1 ≡ sign_code s
  unfolding trim_end
  sign_other h n = sym (from_first (drop_step s a h) ∙ rw (other_kept (get_or s a 0) (trim_end (drop (a + 1) s)) n))

  module _ (h : a < length s) (e : get_or s a 0 ≡ 48) {b : ℕ} (behind : b ≡ a + 1 + blanks (drop (a + 1) s)) where
    zero_first : {t : Bool} → eqb (blanks (drop (a + 1) s)) (length (drop (a + 1) s)) ≡ t → cond t 0 1 ≡ sign_code s
    unfolding trim_end
    zero_first q = sym (from_first (drop_step s a h) ∙ rw (e, zero_kept, all_blanks (drop (a + 1) s), q))

    pub sign_zero : b ≡ length s → 0 ≡ sign_code s
    sign_zero q = zero_first (eq-eqb (blanks (drop (a + 1) s)) (length (drop (a + 1) s)) (omega (arith, length-drop (a + 1) s)))

    pub sign_more : (b ≡ length s → ⊥) → 1 ≡ sign_code s
    sign_more n = zero_first (ne_eqb (blanks (drop (a + 1) s)) (length (drop (a + 1) s)) (omega (arith, length-drop (a + 1) s)))
