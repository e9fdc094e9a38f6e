-- How a group whose head tells its size is answered: cut where the bytes end before it does, and else the values and the place behind.
use Prim.Native.Nat.{ℕ, suc, ◌+◌, ◌-◌, ◌<◌, ◌≤◌}
use mathlib.Core.List.{List, [], ◌∷◌, map}
use mathlib.Core.Path.{◌≡◌, sym}
use native.Mathlib.Omega.{arith}
use lib.Dec.{ltb}
use lib.IntN.{ℤ}
use lib.ListN.{length, get_or, drop, length-drop, drop_of_length-le}
use lib.Seq.{drop-cons}
use borrow.Author.Tests.{ltb-true, ltb-false, lt-ltb, le-ltb}
use Rattle.std.specs.Prelude.{Ok, Err}
use Rattle.bits.proofs.Laws.{by_test}
use Rattle.bits.specs.Pattern.{pattern}
use Rattle.reader.specs.declared.Cursor.{Cursor}
use Rattle.reader.specs.declared.Fault.TheVariants.{Cut}
use Rattle.reader.specs.Got.{Reader, over}
use Rattle.reader.specs.Place.{rest, padded, no_values, group_at}
use Rattle.tagged.specs.Sized.{by_head}
use Rattle.tagged.proofs.Fixed.{Fixed}

-- the head is the first byte, and tells the size, never none, and the values
pub record SizedByHead (enc : Reader (List ℤ)) (size : ℕ → ℕ) (vals : ℕ → List ℕ → List ℤ) : Type 0 where
  pub some : (head : ℕ) → 0 < size head
  pub fixed : (c : List ℕ) → Fixed enc c (size (get_or c 0 0)) (vals (get_or c 0 0) c)

-- so it is read by its head
pub read_by_head : {enc : Reader (List ℤ)} {size : ℕ → ℕ} {vals : ℕ → List ℕ → List ℤ} → SizedByHead enc size vals → (c : List ℕ) → by_head size vals c ≡ enc c
unfolding by_head
read_by_head told [] = sym ((told.fixed []).short (told.some 0))
read_by_head {enc} {size} {vals} told (b ∷ c) =
    by_test (λ g. g ≡ enc (b ∷ c)) (ltb (suc (length c)) (size b)) (λ e. sym ((told.fixed (b ∷ c)).short (ltb-true (suc (length c)) (size b) e)))
    (λ e. sym ((told.fixed (b ∷ c)).whole (ltb-false (suc (length c)) (size b) e)))

-- as the code finds it at a place
module _ (size : ℕ → ℕ) (vals : ℕ → List ℕ → List ℤ) (s : List ℕ) (from : Cursor) where
  pub end : length s ≤ from.at → no_values (Err Cut) ≡ group_at from (over (map pattern) (by_head size vals (rest from s)))
  unfolding group_at over by_head
  end h = rw (drop_of_length-le s h)

  pub short : (from.at < length s) × (length s - from.at < size (get_or s from.at 0))
      → no_values (Err Cut) ≡ group_at from (over (map pattern) (by_head size vals (rest from s)))
  unfolding group_at over by_head
  short h =
      rw (drop-cons s from.at 0 h.0, lt-ltb (suc (length (drop (suc from.at) s))) (size (get_or s from.at 0)) (rw (length-drop (suc from.at) s) (omega arith)))

  pub whole : {n : ℕ} {vs : List ℕ} → n ≡ size (get_or s from.at 0) → vs ≡ padded 8 (map pattern (vals (get_or s from.at 0) (rest from s)))
      → (from.at < length s) × (n ≤ length s - from.at)
      → record { step = Ok (record { at = from.at + n }); values = vs } ≡ group_at from (over (map pattern) (by_head size vals (rest from s)))
  unfolding group_at over by_head
  whole e f h =
      let first = drop-cons s from.at 0 h.0 in
      let g = rw first at f in
      rw (first, le-ltb (suc (length (drop (suc from.at) s))) (size (get_or s from.at 0)) (rw (length-drop (suc from.at) s) (omega arith)))
      (λ i. record { step = Ok (record { at = from.at + e i }); values = g i })
