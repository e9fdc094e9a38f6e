-- Lines byte by byte: how far a prefix begins one, where it ends, and what is the first line of a text.
use Prim.Native.Nat.{ℕ, suc, ◌+◌, ◌<◌, ◌≤◌}
use mathlib.Core.Bool.{Bool, true, false, cond, ◌&&◌, and-false, true≢false}
use mathlib.Core.List.{List, [], ◌∷◌}
use mathlib.Core.Path.{◌≡◌, refl, sym, ap, ◌∙◌}
use native.Mathlib.Omega.{arith}
use lib.Dec.{eqb}
use lib.ListN.{length, drop, take, length-take, length-drop}
use borrow.Author.Tests.{ne_eqb, eqb-true}
use Rattle.items.specs.Text.{ascii}
use Rattle.digits.specs.Digits.{before}
use Rattle.digits.proofs.Parting.{before_step}
use Rattle.header.specs.Lines.{lines, bare, begins, onto}

-- ## A prefix

pub begins_short : (p l : List ℕ) → length l < length p → false ≡ begins p l
unfolding begins
begins_short [] l h = absurd (omega arith)
begins_short (x ∷ p) [] h = refl
begins_short (x ∷ p) (y ∷ l) h = sym (and-false (eqb x y)) ∙ ap (λ q. eqb x y && q) (begins_short p l (omega arith))

pub begins_length : (p l : List ℕ) → begins p l ≡ true → length p ≤ length l
begins_length p l e =
    let not_short : length l < length p → ⊥ = λ h. true≢false (sym e ∙ sym (begins_short p l h)) in
    omega arith

-- ## Where a line ends

bare_by : (b : ℕ) (t : List ℕ) (q : Bool) → length (bare t) ≡ before 10 t → length (cond q [] (b ∷ bare t)) ≡ cond q 0 (suc (before 10 t))
bare_by b t true e = refl
bare_by b t false e = ap suc e

pub bare_before : (t : List ℕ) → length (bare t) ≡ before 10 t
unfolding bare before
bare_before [] = refl
bare_before (b ∷ t) = rw (before_step 10 b t) (bare_by b t (eqb b 10) (bare_before t))

-- ## The first line of a text

-- with its line feed, where it has one
abbrev pub first_line : List ℕ → List ℕ
first_line t = take (suc (length (bare t))) t

-- by whether the first byte is a line feed
first_by : (b : ℕ) (t : List ℕ) (q : Bool) → onto b (lines t) ≡ (b ∷ first_line t) ∷ lines (drop (length (first_line t)) t)
    → let l : List ℕ = take (suc (length (cond q [] (b ∷ bare t)))) (b ∷ t) in
    cond q ((b ∷ []) ∷ lines t) (onto b (lines t)) ≡ l ∷ lines (drop (length l) (b ∷ t))
first_by b t true e = refl
first_by b t false e = e

-- the first line, and the lines of what is behind it
pub lines_first : (t : List ℕ) → 0 < length t → lines t ≡ first_line t ∷ lines (drop (length (first_line t)) t)
unfolding lines bare
lines_first [] h = absurd (omega arith)
lines_first (b ∷ []) h = first_by b [] (eqb b 10) refl
lines_first (b ∷ c ∷ t) h = first_by b (c ∷ t) (eqb b 10) (ap (onto b) (lines_first (c ∷ t) (omega arith)))

pub bare_first : (t : List ℕ) → bare (first_line t) ≡ bare t
unfolding bare
bare_first [] = refl
bare_first (b ∷ t) =
    elim (eqb b 10) as (λ q. cond q [] (b ∷ bare (take (length (cond q [] (b ∷ bare t))) t)) ≡ cond q [] (b ∷ bare t))
    [ true ↦ refl | false ↦ ap (λ l. b ∷ l) (bare_first t) ]

-- without its line feed it is the first bytes of the text
pub take_bare : (t : List ℕ) → take (length (bare t)) t ≡ bare t
unfolding bare
take_bare [] = refl
take_bare (b ∷ t) =
    elim (eqb b 10) as (λ q. take (length (cond q [] (b ∷ bare t))) (b ∷ t) ≡ cond q [] (b ∷ bare t))
    [ true ↦ refl | false ↦ ap (λ l. b ∷ l) (take_bare t) ]

pub bare_within : (t : List ℕ) → length (bare t) ≤ length t
bare_within t = omega (arith, length-take (length (bare t)) t, ap length (take_bare t))

pub end_within : (text : List ℕ) (at : ℕ) {end : ℕ} → end ≡ at + length (bare (drop at text)) → at ≤ length text → end ≤ length text
end_within text at e h = omega (arith, bare_within (drop at text), length-drop at text)

-- a byte that is no line feed, before others that are none: they begin a line just where they begin the text
begins_bare : (x : ℕ) (p : List ℕ) → (x ≡ 10 → ⊥) → ((t : List ℕ) → begins p t ≡ begins p (bare t)) → (t : List ℕ) → begins (x ∷ p) t ≡ begins (x ∷ p) (bare t)
unfolding begins bare
begins_bare x p n e [] = refl
begins_bare x p n e (y ∷ t) =
    elim (eqb y 10) as (λ q. eqb y 10 ≡ q → (eqb x y && begins p t) ≡ begins (x ∷ p) (cond q [] (y ∷ bare t)))
    [ true ↦ λ f. rw (ne_eqb x y (λ g. n (g ∙ eqb-true y 10 f))) | false ↦ λ f. ap (λ q. eqb x y && q) (e t) ] refl

-- so `H ` may be asked before the line's end is known
pub header_bare : (t : List ℕ) → begins (ascii "H ") t ≡ begins (ascii "H ") (bare t)
unfolding begins
header_bare = begins_bare 72 (32 ∷ []) (λ e. omega arith) (begins_bare 32 [] (λ e. omega arith) (λ t. refl))
