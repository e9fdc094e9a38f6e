-- A refusal in one number: it is 256 or more, fits in 64 bits, and its parts are read again, so that no two refusals share a number.
use Prim.Native.Nat.{ℕ, ◌+◌, ◌/◌, ◌%◌, ◌<◌, ◌≤◌, ◌^◌, min}
use mathlib.Core.Path.{◌≡◌, sym, ap, ◌∙◌}
use native.Mathlib.Nat.{min-eq_left, min-le_right}
use native.Mathlib.Omega.{arith}
use Rattle.dulimasca.specs.Told.{most_place, packed}

-- no status
pub refused_from_256 : (number place round : ℕ) → 256 ≤ packed number place round
unfolding packed
refused_from_256 number place round = omega arith

near : (place : ℕ) → min place most_place ≤ most_place
near place = min-le_right place most_place

module _ (number place round : ℕ) (small : (number < 256) × (round < 255)) where
  pub packed_fits : packed number place round < 2 ^ 64
  unfolding packed
  packed_fits = let n = near place in omega arith

  -- its parts, as C takes it apart
  pub number_back : packed number place round % 256 ≡ number
  unfolding packed
  number_back = omega arith

  pub round_back : packed number place round / 256 % 256 ≡ round + 1
  unfolding packed
  round_back = omega arith

  pub place_back : packed number place round / 65536 ≡ min place most_place
  unfolding packed
  place_back = omega arith

  pub near_place_back : place < 2 ^ 48 → packed number place round / 65536 ≡ place
  near_place_back h = place_back ∙ min-eq_left (let n : place ≤ most_place = omega arith in n)

-- NO TWO REFUSALS SHARE A NUMBER
pub packed_injective : (n p r m q t : ℕ) → (n < 256) × (r < 255) → (m < 256) × (t < 255) → p < 2 ^ 48 → q < 2 ^ 48 → packed n p r ≡ packed m q t →
    (n ≡ m) × (p ≡ q) × (r ≡ t)
packed_injective n p r m q t a b near_p near-q e =
    let rounds : r + 1 ≡ t + 1 = sym (round_back n p r a) ∙ ap (λ x. x / 256 % 256) e ∙ round_back m q t b in (
      sym (number_back n p r a) ∙ ap (λ x. x % 256) e ∙ number_back m q t b,
      sym (near_place_back n p r a near_p) ∙ ap (λ x. x / 65536) e ∙ near_place_back m q t b near-q,
      omega arith,
    )
