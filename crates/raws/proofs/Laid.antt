-- Numbers laid into their places: one after the other, as `lay` goes about it, and none behind the last place.
use Prim.Native.Nat.{ℕ, ◌+◌, ◌<◌, ◌≤◌}
use mathlib.Core.List.{List}
use mathlib.Core.Path.{◌≡◌, refl, sym, ◌∙◌}
use native.Mathlib.Numerals.{add-one}
use native.Mathlib.Omega.{arith}
use lib.ListN.{length, take, get_or, set, length-set}
use lib.Seq.{take-suc, take-suc-set, take_all, get_or-take, length-take-le}

-- the first i are laid, over what was there
pub record Laid (there numbers out : List ℕ) (i : ℕ) : Type 0 where
  pub fit : length there ≤ length numbers
  pub room : length out ≡ length there
  pub is : take i out ≡ take i (take (length there) numbers)

pub laid_first : (there numbers : List ℕ) → length there ≤ length numbers → Laid there numbers there 0
laid_first there numbers h = record { fit = h; room = refl; is = refl }

module _ {there numbers out : List ℕ} {i : ℕ} (laid : Laid there numbers out i) where
  -- as many numbers as there are places
  count : length (take (length there) numbers) ≡ length there
  count = length-take-le (length there) numbers laid.fit

  pub laid_on : i < length out → Laid there numbers (set out i (get_or numbers i 0)) (i + 1)
  laid_on h =
      let place : i < length there = omega (arith, laid.room) in
      record {
        fit = laid.fit;
        room = simp length-set laid.room;
        is =
            rw (
              add-one i,
              take-suc-set out i (get_or numbers i 0) h,
              take-suc (take (length there) numbers) i 0 (omega (arith, count)),
              get_or-take (length there) numbers i 0 place,
              laid.is,
            );
      }

  pub laid_all : length out ≤ i → out ≡ take (length there) numbers
  laid_all h = sym (take_all i out h) ∙ laid.is ∙ take_all i (take (length there) numbers) (omega (arith, count, laid.room))

  -- behind the last place
  pub laid_past : length out ≤ i → Laid there numbers out (i + 1)
  laid_past h =
      record {
        fit = laid.fit;
        room = laid.room;
        is = take_all (i + 1) out (omega arith) ∙ laid_all h ∙ sym (take_all (i + 1) (take (length there) numbers) (omega (arith, count, laid.room)));
      }
