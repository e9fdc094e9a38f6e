-- Encoding 1 byte by byte: what `sevens` finds by the byte at a place, and what `variable` may answer there, whatever bytes it has passed.
use Prim.Native.Nat.{ℕ, zero, suc, ◌+◌, ◌-◌, ◌*◌, ◌≤◌, ◌<◌}
use mathlib.Core.List.{List}
use mathlib.Core.Path.{◌≡◌, refl, sym, ap, ◌∙◌}
use native.Mathlib.Numerals.{add-one}
use native.Mathlib.Omega.{arith}
use lib.ListN.{length, get_or, drop, drop_of_length-le}
use lib.Seq.{drop-cons}
use borrow.Author.Tests.{le-ltb, lt-ltb, le-leb, lt-leb}
use Rattle.std.specs.Prelude.{Ok, Err}
use Rattle.reader.specs.declared.Cursor.{Cursor}
use Rattle.reader.specs.declared.Fault.TheVariants.{Cut, Corrupt}
use Rattle.reader.specs.Got.{one, Got, got, cut, corrupt, over, after, onward, ◌>>=◌, give, fault, byte}
use Rattle.reader.specs.Place.{rest, read_at}
use Rattle.reader.proofs.Reading.{onward_give, over_over, over_after, read_after}
use Rattle.decode.specs.Variable.{sevens, encoding1}

-- a byte with bit 7 set, of weight 1, before the rest, of weight 128
abbrev before : ℕ → ℕ → ℕ
before b v = 128 * v + (b - 128)

-- The code keeps a running sum, in which the last byte still has its bit 7: four bytes, and a fifth behind them.
module _ (a b c d : ℕ) (more : (128 ≤ a) × (128 ≤ b) × (128 ≤ c)) where
  four : 2097152 * d + (16384 * c + (128 * b + (a - 128) - 16384) - 2097152) ≡ before a (before b (before c d))
  four = omega arith

  five : (e : ℕ) → 128 ≤ d → 268435456 * e + (before a (before b (before c d)) - 268435456) ≡ before a (before b (before c (before d e)))
  five e h = omega arith

pub running : (a b c d e : ℕ) {v w x y z : ℕ} → (v ≡ a) × (w ≡ b) × (x ≡ c) × (y ≡ d) × (z ≡ e) → (128 ≤ a) × (128 ≤ b) × (128 ≤ c) × (128 ≤ d)
    → 268435456 * z + (2097152 * y + (16384 * x + (128 * w + (v - 128) - 16384) - 2097152) - 268435456) ≡ before a (before b (before c (before d e)))
running a b c d e same more =
    rw (same.0, same.1, same.2, same.3, same.4)
    (ap (λ m. 268435456 * e + (m - 268435456)) (four a b c d (omega arith)) ∙ five a b c d (omega arith) e (omega arith))

-- ## The byte at a place, or none

end : (n : ℕ) (s : List ℕ) (at : ℕ) → length s ≤ at → sevens n (drop at s) ≡ cut
unfolding sevens ◌>>=◌ byte onward
end zero s at h = rw (drop_of_length-le s h)
end (suc n) s at h = rw (drop_of_length-le s h)

module _ (n : ℕ) (s : List ℕ) (at : ℕ) (inside : at < length s) where
  done : get_or s at 0 < 128 → sevens (suc n) (drop at s) ≡ got (get_or s at 0) one
  unfolding sevens ◌>>=◌ byte onward after give
  done h = rw (drop-cons s at 0 inside, lt-ltb (get_or s at 0) 128 h)

  more : 128 ≤ get_or s at 0 → sevens (suc n) (drop at s) ≡ after one (over (before (get_or s at 0)) (sevens n (drop (at + 1) s)))
  unfolding sevens ◌>>=◌ byte onward
  more h =
      rw (add-one, drop-cons s at 0 inside, le-ltb (get_or s at 0) 128 h)
      (ap (after one) (onward_give (before (get_or s at 0)) (drop (suc at) s) (sevens n (drop (suc at) s))))

-- the fifth byte
module _ (s : List ℕ) (at : ℕ) (inside : at < length s) where
  last : get_or s at 0 ≤ 15 → sevens 0 (drop at s) ≡ got (get_or s at 0) one
  unfolding sevens ◌>>=◌ byte onward after give
  last h = rw (drop-cons s at 0 inside, le-leb (get_or s at 0) 15 h)

  high : 15 < get_or s at 0 → sevens 0 (drop at s) ≡ corrupt
  unfolding sevens ◌>>=◌ byte onward after fault
  high h = rw (drop-cons s at 0 inside, lt-leb (get_or s at 0) 15 h)

-- ## The way of `variable` through the bytes, and its answers

-- reading from c has come to the place p: up to n more bytes with bit 7 set may follow, and `f` puts what was passed before what is still read
pub record Come (s : List ℕ) (c : Cursor) (n : ℕ) (f : ℕ → ℕ) (p : ℕ) : Type 0 where
  pub is : read_at c (encoding1 (rest c s)) ≡ read_at (record { at = p }) (over f (sevens n (drop p s)))

over_id : (g : Got ℕ) → g ≡ over (λ v. v) g
unfolding over
over_id (got v u) = refl
over_id cut = refl
over_id corrupt = refl

pub start : (s : List ℕ) (c : Cursor) → Come s c 4 (λ v. v) c.at
unfolding encoding1
start s c = record { is = ap (read_at c) (over_id (sevens 4 (rest c s))) }

module _ {s : List ℕ} {c : Cursor} {f : ℕ → ℕ} {p : ℕ} where
  pub step : {n : ℕ} → Come s c (suc n) f p → (p < length s) × (128 ≤ get_or s p 0) → Come s c n (λ v. f (before (get_or s p 0) v)) (p + 1)
  step {n} come h =
      record {
        is = come.is
            ∙ ap (λ g. read_at (record { at = p }) (over f g)) (more n s p h.0 h.1)
            ∙ ap (read_at (record { at = p })) (over_after f one (over (before (get_or s p 0)) (sevens n (drop (p + 1) s))))
            ∙ read_after (record { at = p }) one (over f (over (before (get_or s p 0)) (sevens n (drop (p + 1) s))))
            ∙ ap (read_at (record { at = p + 1 })) (over_over (before (get_or s p 0)) f (sevens n (drop (p + 1) s)));
      }

  pub ended : {n : ℕ} → Come s c n f p → length s ≤ p → Err Cut ≡ read_at c (encoding1 (rest c s))
  unfolding read_at over
  ended {n} come h = sym (come.is ∙ rw (end n s p h))

  answered : {n v w : ℕ} → Come s c n f p → sevens n (drop p s) ≡ got v one → w ≡ f v → Ok (w, record { at = p + 1 }) ≡ read_at c (encoding1 (rest c s))
  unfolding read_at over
  answered come g e = sym (come.is ∙ rw (g, e))

  pub number : {n w : ℕ} → Come s c (suc n) f p → (p < length s) × (get_or s p 0 < 128) → w ≡ f (get_or s p 0)
      → Ok (w, record { at = p + 1 }) ≡ read_at c (encoding1 (rest c s))
  number {n} come h e = answered come (done n s p h.0 h.1) e

  pub fifth : {w : ℕ} → Come s c 0 f p → (p < length s) × (get_or s p 0 ≤ 15) → w ≡ f (get_or s p 0)
      → Ok (w, record { at = p + 1 }) ≡ read_at c (encoding1 (rest c s))
  fifth come h e = answered come (last s p h.0 h.1) e

  pub too_high : Come s c 0 f p → (p < length s) × (15 < get_or s p 0) → Err Corrupt ≡ read_at c (encoding1 (rest c s))
  unfolding read_at over
  too_high come h = sym (come.is ∙ rw (high s p h.0 h.1))
