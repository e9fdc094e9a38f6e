-- The sum of the counts, taken off the trials one by one.
use Prim.Native.Nat.{ℕ, zero, suc, ◌+◌, ◌-◌, ◌<◌, ◌≤◌}
use mathlib.Core.Bool.{Bool, true, false}
use mathlib.Core.List.{List}
use mathlib.Core.Path.{◌≡◌, refl, sym, ap, ap₂, ◌∙◌}
use native.Mathlib.Numerals.{add-one}
use native.Mathlib.Omega.{arith}
use lib.Dec.{eqb}
use lib.ListN.{get_or}
use borrow.Author.Tests.{eq-eqb, ne_eqb, eqb-true, eqb-false}
use Rattle.section.specs.declared.Tally.{Tally}
use Rattle.section.specs.Refusals.{cuts, parts_of}

-- the first n counts
abbrev first : List ℕ → ℕ → ℕ
first c zero = 0
first c (suc n) = first c n + get_or c n 0

-- the first i counts are taken off
pub record Off (c : List ℕ) (trials left i : ℕ) : Type 0 where
  pub few : i ≤ 4
  pub is : left + first c i ≡ trials

pub off_first : (c : List ℕ) (trials : ℕ) → Off c trials trials 0
off_first c trials = record { few = omega arith; is = omega arith }

-- two sums with one number added to both sides
added : (a b n : ℕ) → eqb a b ≡ eqb (a + n) (n + b)
added a b n = go (eqb a b) refl
  where
    go : (q : Bool) → eqb a b ≡ q → eqb a b ≡ eqb (a + n) (n + b)
    go true e = let same : a ≡ b = eqb-true a b e in e ∙ sym (eq-eqb (a + n) (n + b) (omega arith))
    go false e = e ∙ sym (ne_eqb (a + n) (n + b) (λ same. eqb-false a b e (omega arith)))

module _ {c : List ℕ} {trials left i : ℕ} (off : Off c trials left i) where
  pub off_on : i < 4 → get_or c i 0 ≤ left → Off c trials (left - get_or c i 0) (i + 1)
  off_on h enough = record { few = omega arith; is = rw (add-one i) (omega (arith, off.is)) }

-- a count is part of the sum of the four
first_below : (c : List ℕ) (i : ℕ) → i < 4 → first c i + get_or c i 0 ≤ first c 4
first_below c zero h = omega arith
first_below c (suc zero) h = omega arith
first_below c (suc (suc zero)) h = omega arith
first_below c (suc (suc (suc zero))) h = omega arith
first_below c (suc (suc (suc (suc i)))) h = absurd (omega arith)

-- a count that is more than what is left
pub off_short : (t : Tally) {left i : ℕ} → Off t.counts t.trials left i → i < 4 → left < get_or t.counts i 0 → false ≡ eqb t.trials (parts_of t)
unfolding parts_of
off_short t {i = i} off h less = sym (ne_eqb t.trials (parts_of t) (λ e. omega (arith, off.is, first_below t.counts i h)))

-- the four are taken off, and a final cut is left
pub off_all : (t : Tally) {left i n : ℕ} → Off t.counts t.trials left i → n ≡ cuts t.ending → 4 ≤ i → eqb left n ≡ eqb t.trials (parts_of t)
unfolding parts_of
off_all t {left} {i} {n} off e h =
    let four : i ≡ 4 = omega (arith, off.few) in
    let whole : left + first t.counts 4 ≡ t.trials = ap (λ j. left + first t.counts j) (sym four) ∙ off.is in
    added left n (first t.counts 4) ∙ ap₂ eqb whole (omega arith)
