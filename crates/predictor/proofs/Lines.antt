-- Predictor 2. Of natural numbers: 2·last − older below zero, over the top, or between. Signed values are natural ones once moved up by 2 ^ 31.
use Rattle.std.proofs.Common.{◌≡◌, ℕ, zero, suc, ◌+◌, ◌-◌, ◌*◌, ◌^◌, ◌<◌, ◌≤◌, Bool, true, false, cond, ltb, leb, ℤ, pos, negsuc}
use Rattle.std.proofs.Common.{◌+ℤ◌, ◌-ℤ◌, ◌*ℤ◌, neg_ℤ, sym, refl, ap, ◌∙◌, ap₂, arith, ltb-false, ltb-true, le-ltb, lt-ltb}
use Rattle.std.proofs.Common.{le-leb, leb-true}
use lib.IntN.{+ℤ_assoc, +ℤ_comm, +ℤ_idl, +ℤ_invr, neg_ℤ-+ℤ}
use borrow.Author.Tests.{lt-leb}
use Rattle.bits.specs.Pattern.{wrap, pattern, meant, signed, Fits32}
use Rattle.bits.proofs.Laws.{by_test, by_halves, wrap_id, pattern_below, pattern_add}
use Rattle.predictor.specs.Owes.{StraightLineOwes}
use Rattle.predictor.specs.Predictors.{straight}
use Rattle.predictor.specs.Sign.{value_of, up_to, fits}

-- ## Natural numbers

-- a difference, by its sign
pub by_sign : (P : ℤ → Type 0) (a b : ℕ) → (a < b → P (negsuc (b - suc a))) → (b ≤ a → P (pos (a - b))) → P (pos a -ℤ pos b)
by_sign P a zero f g = let e : a - 0 ≡ a + 0 = omega arith in rw e at (g (omega arith))
by_sign P a (suc b) f g = by_test P (ltb a (suc b)) (λ e. f (ltb-true a (suc b) e)) (λ e. g (ltb-false a (suc b) e))

-- a line that goes below zero, or over the top, stays at last
module _ (top l o : ℕ) {r : ℕ} where
  pub stays_from_below : (2 * l < o) × (r ≡ l) → StraightLineOwes top l o r
  unfolding straight up_to
  stays_from_below h = by_sign (λ z. pos r ≡ cond (up_to top z) z (pos l)) (2 * l) o (λ k. ap pos h.1) (λ k. absurd (omega arith))

  pub stays_from_over : (o + top < 2 * l) × (r ≡ l) → StraightLineOwes top l o r
  unfolding straight up_to
  stays_from_over h =
      by_sign (λ z. pos r ≡ cond (up_to top z) z (pos l)) (2 * l) o
      (λ k. absurd (omega arith))
      (λ k. rw (lt-leb (2 * l - o) top (omega arith)) (ap pos h.1))

  -- and between it goes on
  pub goes_on : (r + o ≡ 2 * l) × (r ≤ top) → StraightLineOwes top l o r
  unfolding straight up_to
  goes_on h =
      by_sign (λ z. pos r ≡ cond (up_to top z) z (pos l)) (2 * l) o
      (λ k. absurd (omega arith))
      (λ k. rw (le-leb (2 * l - o) top (omega arith)) (ap pos (omega arith)))

-- so that no answer passes a top that last keeps to
pub straight_below : (top l o : ℕ) {r : ℕ} → StraightLineOwes top l o r → l ≤ top → r ≤ top
unfolding straight up_to
straight_below top l o {r} e h =
    by_test (λ z. pos r ≡ z → r ≤ top) (up_to top (pos 2 *ℤ pos l -ℤ pos o))
    (λ t f. leb-true r top (ap (up_to top) f ∙ t))
    (λ t f. let same : r ≡ l = cc in omega arith)
    e

-- 32 bits, unsigned: `fits` is up to 2 ^ 32 - 1
pub straight_unsigned : (l o : ℕ) {r : ℕ} → l < 2 ^ 32 → StraightLineOwes (2 ^ 32 - 1) l o r
    → r ≡ pattern (straight (fits false) (value_of false l) (value_of false o))
unfolding fits value_of pattern
straight_unsigned l o {r} h e = sym (wrap_id r (omega (arith, straight_below (2 ^ 32 - 1) l o e (omega arith)))) ∙ ap pattern e

-- ## Signed numbers

-- moved up by 2 ^ 31
abbrev pub up : ℤ → ℤ
up z = z +ℤ pos (2 ^ 31)

-- a pattern's meaning moved up is the pattern turned
pub meant_up : (v : ℕ) → v < 2 ^ 32 → up (meant v) ≡ pos (wrap (v + 2 ^ 31))
unfolding meant signed wrap
meant_up v h =
    by_halves (λ z. up z ≡ pos (wrap (v + 2 ^ 31))) (2 ^ 32) v h
    (λ l. ap pos (omega arith))
    (λ l. rw (le-ltb (2 ^ 31) (suc (2 ^ 32 - suc v)) (omega arith)) (ap pos (omega arith)))

-- the pattern of a number is that of the number moved up, turned
pub pattern_up : (z : ℤ) → wrap (pattern (up z) + 2 ^ 31) ≡ pattern z
unfolding wrap pattern
pattern_up z = omega (arith, pattern_add z (pos (2 ^ 31)), pattern_below z)

-- what fits signed is what a pattern can mean
pub fits_32 : (z : ℤ) → fits true z ≡ true → Fits32 z
unfolding fits
fits_32 (pos n) e = ltb-true n (2 ^ 31) e
fits_32 (negsuc n) e = ltb-true n (2 ^ 31) e

-- and fits unsigned once moved up
fits_up : (z : ℤ) → fits true z ≡ fits false (up z)
unfolding fits up_to
fits_up (pos n) = either (ltb n (2 ^ 31)) refl
  where
    either : (t : Bool) → ltb n (2 ^ 31) ≡ t → ltb n (2 ^ 31) ≡ leb (n + 2 ^ 31) (2 ^ 32 - 1)
    either true e = e ∙ sym (le-leb (n + 2 ^ 31) (2 ^ 32 - 1) (omega (arith, ltb-true n (2 ^ 31) e)))
    either false e = e ∙ sym (lt-leb (n + 2 ^ 31) (2 ^ 32 - 1) (omega (arith, ltb-false n (2 ^ 31) e)))
fits_up (negsuc n) =
    by_sign (λ z. ltb n (2 ^ 31) ≡ up_to (2 ^ 32 - 1) z) (2 ^ 31) (suc n)
    (λ h. le-ltb n (2 ^ 31) (omega arith))
    (λ h. lt-ltb n (2 ^ 31) (omega arith) ∙ sym (le-leb (2 ^ 31 - suc n) (2 ^ 32 - 1) (omega arith)))

-- the line moves with its points
double : (a : ℤ) → pos 2 *ℤ a ≡ a +ℤ a
double (pos n) = ap pos (omega arith)
double (negsuc n) = ap (λ (m : ℕ). neg_ℤ (pos m)) (let e : 2 * suc n ≡ suc (suc (n + n)) = omega arith in e)

apart : (a b k : ℤ) → (a +ℤ k) -ℤ (b +ℤ k) ≡ a -ℤ b
apart a b k =
    rw (neg_ℤ-+ℤ b k, +ℤ_comm (neg_ℤ b) (neg_ℤ k), +ℤ_assoc a k (neg_ℤ k +ℤ neg_ℤ b))
    (ap (λ x. a +ℤ x) (sym (+ℤ_assoc k (neg_ℤ k) (neg_ℤ b)) ∙ ap (λ x. x +ℤ neg_ℤ b) (+ℤ_invr k) ∙ +ℤ_idl (neg_ℤ b)))

line_is : (a b : ℤ) → pos 2 *ℤ a -ℤ b ≡ (a -ℤ b) +ℤ a
line_is a b = ap (λ x. x -ℤ b) (double a) ∙ +ℤ_assoc a a (neg_ℤ b) ∙ +ℤ_comm a (a -ℤ b)

line_up : (a b : ℤ) → pos 2 *ℤ up a -ℤ up b ≡ up (pos 2 *ℤ a -ℤ b)
line_up a b =
    line_is (up a) (up b) ∙ ap (λ x. x +ℤ up a) (apart a b (pos (2 ^ 31))) ∙ sym (+ℤ_assoc (a -ℤ b) a (pos (2 ^ 31)))
    ∙ ap up (sym (line_is a b))

straight_up : (a b : ℤ) → straight (fits false) (up a) (up b) ≡ up (straight (fits true) a b)
unfolding straight
straight_up a b = rw (line_up a b, ← fits_up (pos 2 *ℤ a -ℤ b)) (either (fits true (pos 2 *ℤ a -ℤ b)) (pos 2 *ℤ a -ℤ b))
  where
    either : (t : Bool) (z : ℤ) → cond t (up z) (up a) ≡ up (cond t z a)
    either true z = refl
    either false z = refl

-- 32 bits, signed: the unsigned answer for the turned patterns, turned
pub straight_signed : (l o : ℕ) {x y r : ℕ} → (l < 2 ^ 32) × (o < 2 ^ 32) → x ≡ wrap (l + 2 ^ 31) → y ≡ wrap (o + 2 ^ 31)
    → r ≡ pattern (straight (fits false) (value_of false x) (value_of false y))
    → wrap (r + 2 ^ 31) ≡ pattern (straight (fits true) (value_of true l) (value_of true o))
unfolding value_of
straight_signed l o {x} {y} h e f g =
    let left : pos x ≡ up (meant l) = ap pos e ∙ sym (meant_up l h.0) in
    let right : pos y ≡ up (meant o) = ap pos f ∙ sym (meant_up o h.1) in
    ap (λ n. wrap (n + 2 ^ 31)) (g ∙ ap pattern (ap₂ (straight (fits false)) left right ∙ straight_up (meant l) (meant o)))
    ∙ pattern_up (straight (fits true) (meant l) (meant o))
