-- Patterns of 32 bits and what they mean: each integer that fits has one pattern, and sums of patterns, wrapped, are patterns of sums.
use Prim.Native.Nat.{ℕ, zero, suc, ◌+◌, ◌-◌, ◌*◌, ◌^◌, ◌≤◌, ◌<◌}
use mathlib.Core.Bool.{Bool, true, false, cond}
use mathlib.Core.Path.{◌≡◌, refl, sym, ap, ◌∙◌}
use native.Mathlib.Omega.{arith}
use lib.Dec.{ltb}
use lib.IntN.{ℤ, pos, negsuc, sub_ℕ, ◌+ℤ◌, ◌-ℤ◌}
use lib.Pow.{pow_mono}
use borrow.Author.Tests.{ltb-true, ltb-false, lt-ltb}
use Rattle.bits.specs.Pattern.{wrap, pattern, lowered, signed, meant, Fits32}

-- what holds in both arms holds of a test
pub by_test : {A : Type 0} (P : A → Type 0) (t : Bool) {x y : A} → (t ≡ true → P x) → (t ≡ false → P y) → P (cond t x y)
by_test P true f g = f refl
by_test P false f g = g refl

-- below 2 ^ 32 nothing wraps
pub wrap_id : (n : ℕ) → n < 2 ^ 32 → wrap n ≡ n
unfolding wrap
wrap_id n h = omega arith

-- a pattern has 32 bits
pub pattern_below : (z : ℤ) → pattern z < 2 ^ 32
unfolding pattern wrap
pattern_below (pos n) = omega arith
pattern_below (negsuc n) = omega arith

-- a difference below zero
below : (v k : ℕ) → v < k → pos v -ℤ pos k ≡ negsuc (k - suc v)
below v zero h = absurd (omega arith)
below v (suc k) h = rw (lt-ltb v (suc k) h)

-- a number below k, by halves: the lower stands for itself, the upper k lower
pub by_halves : (P : ℤ → Type 0) (k v : ℕ) → v < k → (2 * v < k → P (pos v)) → (k ≤ 2 * v → P (negsuc (k - suc v))) → P (lowered k v)
unfolding lowered
by_halves P k v h f g = rw (below v k h) (by_test P (ltb (2 * v) k) (λ e. f (ltb-true (2 * v) k e)) (λ e. g (ltb-false (2 * v) k e)))

-- a pattern is the pattern of what it means
pub pattern_meant : (v : ℕ) → v < 2 ^ 32 → pattern (meant v) ≡ v
unfolding pattern wrap meant signed
pattern_meant v h = by_halves (λ z. pattern z ≡ v) (2 ^ 32) v h (λ l. omega arith) (λ l. omega arith)

-- a number of at most 2 ^ 32 values fits, taken as signed
pub lowered_fits : (k v : ℕ) → k ≤ 2 ^ 32 → v < k → Fits32 (lowered k v)
lowered_fits k v le h = by_halves Fits32 k v h (λ l. omega arith) (λ l. omega arith)

-- a signed number of at most 32 bits fits
pub signed_fits : (bits v : ℕ) → bits ≤ 32 → v < 2 ^ bits → Fits32 (signed bits v)
unfolding signed
signed_fits bits v le h = lowered_fits (2 ^ bits) v (pow_mono le) h

-- what fits is what its pattern means
pub meant_pattern : (z : ℤ) → Fits32 z → meant (pattern z) ≡ z
unfolding pattern wrap meant signed
meant_pattern (pos n) h =
    by_halves (λ z. z ≡ pos n) (2 ^ 32) _ (omega arith) (λ l. ap pos (omega arith)) (λ l. absurd (omega arith))
meant_pattern (negsuc n) h =
    by_halves (λ z. z ≡ negsuc n) (2 ^ 32) _ (omega arith) (λ l. absurd (omega arith)) (λ l. ap negsuc (omega arith))

-- no two integers that fit share a pattern
pub pattern_injective : (x y : ℤ) → Fits32 x → Fits32 y → pattern x ≡ pattern y → x ≡ y
pattern_injective x y hx hy e = sym (meant_pattern x hx) ∙ ap meant e ∙ meant_pattern y hy

-- the pattern of a difference
difference : (a b : ℕ) → pattern (sub_ℕ a (suc b)) ≡ wrap (wrap a + pattern (negsuc b))
unfolding pattern wrap
difference a b =
    by_test (λ z. pattern z ≡ wrap (wrap a + pattern (negsuc b))) (ltb a (suc b)) (λ e. omega (arith, ltb-true)) (λ e. omega (arith, ltb-false))

-- the pattern of a sum, whatever the two integers
pub pattern_add : (x y : ℤ) → pattern (x +ℤ y) ≡ wrap (pattern x + pattern y)
unfolding pattern wrap
pattern_add (pos a) (pos b) = omega arith
pattern_add (pos a) (negsuc b) = difference a b
pattern_add (negsuc a) (pos b) = difference b a ∙ omega arith
pattern_add (negsuc a) (negsuc b) = omega arith

-- adding patterns with wrapping is adding what they mean
pub pattern_sum : (a b : ℕ) → a < 2 ^ 32 → b < 2 ^ 32 → pattern (meant a +ℤ meant b) ≡ wrap (a + b)
pattern_sum a b ha hb = rw (pattern_add, pattern_meant a ha, pattern_meant b hb)
