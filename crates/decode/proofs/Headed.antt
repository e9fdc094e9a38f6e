-- A group of encoding 6 by its head, and by its size.
use Prim.Native.Nat.{ℕ, ◌*◌, ◌%◌, ◌^◌, ◌<◌, ◌≤◌}
use mathlib.Core.List.{List, map}
use mathlib.Core.Path.{◌≡◌, sym, ap, ◌∙◌}
use native.Mathlib.Omega.{arith}
use lib.IntN.{ℤ}
use borrow.Author.Tests.{lt-ltb, le-ltb, le-leb, lt-leb, eq-eqb, ne_eqb}
use Rattle.bits.specs.Pattern.{pattern}
use Rattle.std.proofs.Math.Pow.{pow_mono}
use Rattle.std.specs.Prelude.{Ok, Err}
use Rattle.reader.specs.declared.Cursor.{Cursor}
use Rattle.reader.specs.declared.Fault.{Fault}
use Rattle.reader.specs.declared.Fault.TheVariants.{Corrupt}
use Rattle.reader.specs.declared.Group.{Group}
use Rattle.reader.specs.Got.{Spent, Got, over, after, fault, byte}
use Rattle.reader.specs.Place.{rest, on, read_at, no_values, group_at}
use Rattle.reader.proofs.Behind.{then_ok, then_err}
use Rattle.reader.proofs.Reading.{over_after, over_met, group_after, group_met}
use Rattle.decode.specs.TaggedVariable.{fields, headed, alone, encoding6}

-- a group at a place, its numbers as patterns
abbrev patterns_at : Cursor → Got (List ℤ) → Group
patterns_at c g = group_at c (over (map pattern) g)

patterns_after : (c : Cursor) (u : Spent) (g : Got (List ℤ)) → patterns_at c (after u g) ≡ patterns_at (on c u) g
patterns_after c u g = ap (group_at c) (over_after (map pattern) u g) ∙ group_after c u (over (map pattern) g)

-- ## The group by its head

-- the code's shift loses no bit
pub power : (n : ℕ) → n ≤ 8 → 1 * 2 ^ n % 2 ^ 32 ≡ 2 ^ n
power n h = let few : 2 ^ n ≤ 2 ^ 8 = pow_mono h in omega arith

module _ (n : ℕ) (c : Cursor) (s : List ℕ) where
  pub head_err : {d : Fault} → Err d ≡ read_at c (byte (rest c s)) → no_values (Err d) ≡ group_at c (over (map pattern) (headed n (rest c s)))
  unfolding headed
  head_err {d} e = then_err patterns_at patterns_after _ s c byte e (sym (ap (group_at c) (over_met (map pattern) d) ∙ group_met c d))

  pub head_high : {h : ℕ} {q : Cursor} → Ok (h, q) ≡ read_at c (byte (rest c s)) → 2 ^ n ≤ h
      → no_values (Err Corrupt) ≡ group_at c (over (map pattern) (headed n (rest c s)))
  unfolding headed fault over group_at
  head_high {h} e le = then_ok patterns_at patterns_after _ s c byte e (rw (le-ltb h (2 ^ n) le))

  -- where the head is in order, the fields are read at the next place
  pub head_low : {x : Group} {h : ℕ} {q : Cursor} → x ≡ group_at q (over (map pattern) (fields n h (rest q s)))
      → Ok (h, q) ≡ read_at c (byte (rest c s)) → h < 2 ^ n → x ≡ group_at c (over (map pattern) (headed n (rest c s)))
  unfolding headed
  head_low {h = h} a e lt = then_ok patterns_at patterns_after _ s c byte e (rw (lt-ltb h (2 ^ n) lt) a)

-- ## The group by its size

module _ (n : ℕ) (c : Cursor) (t : List ℕ) where
  abbrev Six : Group → Type 0
  Six x = x ≡ group_at c (over (map pattern) (encoding6 n t))

  pub size_none : n ≡ 0 → Six (no_values (Err Corrupt))
  unfolding encoding6 fault over group_at
  size_none h = rw (eq-eqb n 0 h)

  pub size_one : {x : Group} → x ≡ group_at c (over (map pattern) (alone t)) → n ≡ 1 → Six x
  unfolding encoding6
  size_one e h = e ∙ rw h

  pub size_more : {x : Group} → x ≡ group_at c (over (map pattern) (headed n t)) → (n ≡ 0 → ⊥) → (n ≡ 1 → ⊥) → n ≤ 8 → Six x
  unfolding encoding6
  size_more e h₀ h₁ le = e ∙ rw (ne_eqb n 0 h₀, ne_eqb n 1 h₁, le-leb n 8 le)

  pub size_beyond : (n ≡ 0 → ⊥) → (n ≡ 1 → ⊥) → 8 < n → Six (no_values (Err Corrupt))
  unfolding encoding6 fault over group_at
  size_beyond h₀ h₁ lt = rw (ne_eqb n 0 h₀, ne_eqb n 1 h₁, lt-leb n 8 lt)
