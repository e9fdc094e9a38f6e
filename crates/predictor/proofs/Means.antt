-- Predictor 3. The sum of two signed values stands 2 ^ 32 below that of their turned patterns; half of it goes towards zero.
use Rattle.std.proofs.Common.{◌≡◌, ℕ, zero, suc, ◌+◌, ◌-◌, ◌/◌, ◌^◌, ◌<◌, true, false, ℤ, pos, ◌+ℤ◌, ◌-ℤ◌, neg_ℤ, sym, ap, ◌∙◌, ap₂, arith}
use lib.IntN.{+ℤ_assoc, +ℤ_comm, +ℤ-neg_ℤ_cancel}
use Rattle.bits.specs.Pattern.{wrap, pattern, meant}
use Rattle.bits.proofs.Laws.{wrap_id}
use Rattle.predictor.specs.Predictors.{half, mean}
use Rattle.predictor.specs.Sign.{value_of}
use Rattle.predictor.proofs.Lines.{by_sign, up, meant_up}

-- two numbers moved up are their sum moved up twice
sum_up : (a b : ℤ) → up a +ℤ up b ≡ a +ℤ b +ℤ pos (2 ^ 32)
sum_up a b =
    +ℤ_assoc a (pos (2 ^ 31)) (up b)
    ∙ ap (λ x. a +ℤ x) (+ℤ_comm (pos (2 ^ 31)) (up b) ∙ +ℤ_assoc b (pos (2 ^ 31)) (pos (2 ^ 31)))
    ∙ sym (+ℤ_assoc a b (pos (2 ^ 32)))

-- the pattern of a number negated
pattern_minus : (m n : ℕ) → n + m ≡ 2 ^ 32 → wrap n ≡ pattern (neg_ℤ (pos m))
unfolding pattern wrap
pattern_minus zero n e = omega arith
pattern_minus (suc m) n e = omega arith

-- Half of a number, from the number moved up twice: one more where it is below zero, halved downwards and turned.
half_up : (n m : ℕ) → m ≡ (n + (1 - n / 2 ^ 32)) / 2 → wrap (m + 2 ^ 31) ≡ pattern (half (pos n -ℤ pos (2 ^ 32)))
unfolding half pattern wrap
half_up n m e =
    by_sign (λ z. wrap (m + 2 ^ 31) ≡ pattern (half z)) n (2 ^ 32)
    (λ k. pattern_minus (suc (2 ^ 32 - suc n) / 2) (m + 2 ^ 31) (omega arith))
    (λ k. let down : m ≡ (n - 2 ^ 32) / 2 + 2 ^ 31 = omega arith in omega arith)

-- of signed values, with x and y their patterns turned
pub mean_signed : (l o m : ℕ) {x y : ℕ} → (l < 2 ^ 32) × (o < 2 ^ 32) → x ≡ wrap (l + 2 ^ 31) → y ≡ wrap (o + 2 ^ 31)
    → m ≡ (x + y + (1 - (x + y) / 2 ^ 32)) / 2 → wrap (m + 2 ^ 31) ≡ pattern (mean (value_of true l) (value_of true o))
unfolding mean value_of
mean_signed l o m {x} {y} h e f g =
    let both : pos x +ℤ pos y ≡ meant l +ℤ meant o +ℤ pos (2 ^ 32) =
    ap₂ ◌+ℤ◌ (ap pos e ∙ sym (meant_up l h.0)) (ap pos f ∙ sym (meant_up o h.1)) ∙ sum_up (meant l) (meant o)
    in
    half_up (x + y) m g
    ∙ ap (λ z. pattern (half z)) (ap (λ z. z -ℤ pos (2 ^ 32)) both ∙ +ℤ-neg_ℤ_cancel (meant l +ℤ meant o) (pos (2 ^ 32)))

pub mean_unsigned : (l o : ℕ) → (l < 2 ^ 32) × (o < 2 ^ 32) → (l + o) / 2 ≡ pattern (mean (value_of false l) (value_of false o))
unfolding mean half value_of pattern
mean_unsigned l o h = sym (wrap_id ((l + o) / 2) (omega arith))
