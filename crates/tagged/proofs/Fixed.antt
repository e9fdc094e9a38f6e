-- Readings of a fixed size: the value where the bytes are there, cut where they are not.
-- `give`, `byte`, `bytes`, one reader behind another and a choice of four keep this.
use Prim.Native.Nat.{ℕ, zero, suc, ◌+◌, ◌<◌, ◌≤◌}
use mathlib.Core.Bool.{Bool, true, false}
use mathlib.Core.List.{List, [], ◌∷◌}
use mathlib.Core.Path.{◌≡◌, refl, ◌∙◌}
use native.Mathlib.Omega.{arith}
use lib.Dec.{leb}
use lib.ListN.{length, get_or, take, drop, length-drop}
use borrow.Author.Tests.{leb-true, leb-false}
use Rattle.reader.specs.Got.{got, cut, after, Reader, onward, ◌>>=◌, give, byte, bytes}
use Rattle.tagged.specs.Choose.{choose}

-- the reader takes n of the bytes `c`, for the value `v`
pub record Fixed {A : Type 0} (r : Reader A) (c : List ℕ) (n : ℕ) (v : A) : Type 0 where
  pub whole : n ≤ length c → r c ≡ got v (record { bytes = n })
  pub short : length c < n → r c ≡ cut

-- the same, for a size and a value that come to the same where the bytes are there
pub recast : {A : Type 0} {r : Reader A} {c : List ℕ} {n n' : ℕ} {v v' : A} → Fixed r c n v → n ≡ n' → (n ≤ length c → v ≡ v') → Fixed r c n' v'
recast f e w =
    record {
      whole = λ h. f.whole (omega arith) ∙ (λ i. got (w (omega arith) i) (record { bytes = e i }));
      short = λ h. f.short (omega arith);
    }

pub given : {A : Type 0} (c : List ℕ) (a : A) → Fixed (give a) c 0 a
unfolding give
given c a = record { whole = λ h. refl; short = λ h. absurd (omega arith) }

pub one_byte : (c : List ℕ) → Fixed byte c 1 (get_or c 0 0)
unfolding byte
one_byte [] = record { whole = λ h. absurd (omega arith); short = λ h. refl }
one_byte (b ∷ c) = record { whole = λ h. refl; short = λ h. absurd (omega arith) }

-- one behind the other: the sizes add up
module _ {A B : Type 0} {c : List ℕ} {m n : ℕ} {v : A} {w : B} {f : Reader A} (k : A → Reader B) where
  then_short : Fixed f c m v → Fixed (k v) (drop m c) n w → length c < m + n → (t : Bool) → leb m (length c) ≡ t → ◌>>=◌ f k c ≡ cut
  unfolding ◌>>=◌ onward after
  then_short p q h true e =
      let le : m ≤ length c = leb-true m (length c) e in
      rw (p.whole le, q.short (rw (length-drop m c) (omega arith)))
  then_short p q h false e = rw (p.short (leb-false m (length c) e))

  pub then : Fixed f c m v → Fixed (k v) (drop m c) n w → Fixed (◌>>=◌ f k) c (m + n) w
  unfolding ◌>>=◌ onward after
  then p q =
      record {
        whole = λ h. rw (p.whole (omega arith), q.whole (rw (length-drop m c) (omega arith)));
        short = λ h. then_short p q h (leb m (length c)) refl;
      }

-- n bytes
more_bytes : {n : ℕ} (c : List ℕ) → Fixed (bytes n) (drop 1 c) n (take n (drop 1 c)) → Fixed (bytes (suc n)) c (suc n) (take (suc n) c)
unfolding bytes
more_bytes [] r = record { whole = λ h. absurd (omega arith); short = λ h. (then _ (one_byte []) (then _ r (given _ _))).short (omega arith) }
more_bytes (b ∷ c) r = recast (then _ (one_byte (b ∷ c)) (then _ r (given _ _))) (omega arith) (λ h. refl)

pub some_bytes : (n : ℕ) (c : List ℕ) → Fixed (bytes n) c n (take n c)
unfolding bytes
some_bytes zero c = given c []
some_bytes (suc n) c = more_bytes c (some_bytes n (drop 1 c))

-- one of four readers
pub chosen : {A : Type 0} {c : List ℕ} {n₀ n₁ n₂ n₃ : ℕ} {v₀ v₁ v₂ v₃ : A} {r₀ r₁ r₂ r₃ : Reader A} (k : ℕ)
    → Fixed r₀ c n₀ v₀ → Fixed r₁ c n₁ v₁ → Fixed r₂ c n₂ v₂ → Fixed r₃ c n₃ v₃
    → Fixed (choose k r₀ r₁ r₂ r₃) c (choose k n₀ n₁ n₂ n₃) (choose k v₀ v₁ v₂ v₃)
chosen zero p q r s = p
chosen (suc zero) p q r s = q
chosen (suc (suc zero)) p q r s = r
chosen (suc (suc (suc k))) p q r s = s
