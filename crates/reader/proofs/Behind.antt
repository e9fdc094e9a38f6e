-- What is read behind a value, by what the code was answered for it. Stated over F, what the code answers for a reading at a place.
use Prim.Native.Nat.{ℕ}
use mathlib.Core.List.{List, [], ◌∷◌}
use mathlib.Core.Path.{◌≡◌, refl, sym, ap, ap₂, ◌∙◌}
use Rattle.std.specs.Prelude.{Option, Some, None, Result, Ok, Err, ok_or}
use Rattle.reader.specs.declared.Cursor.{Cursor}
use Rattle.reader.specs.declared.Fault.{Fault}
use Rattle.reader.specs.declared.Fault.TheVariants.{Cut, Corrupt}
use Rattle.reader.specs.Got.{Spent, Got, got, cut, corrupt, after, Reader, onward, ◌>>=◌, byte}
use Rattle.reader.specs.Place.{rest, on, byte_at, read_at}
use Rattle.reader.proofs.Reading.{ok_parts, onward_got, met, read_after, read_met}

module _ {A B R : Type 0} (F : Cursor → Got B → R) (F-after : (c : Cursor) (u : Spent) (g : Got B) → F c (after u g) ≡ F (on c u) g)
    (K : A → Reader B) (s : List ℕ) (c : Cursor) where
  behind_ok : (g : Got A) {v : A} {q : Cursor} → Ok (v, q) ≡ read_at c g → F c (onward K (rest c s) g) ≡ F q (K v (rest q s))
  unfolding read_at
  behind_ok (got w u) {v} {q} e =
      let same : (v ≡ w) × (q ≡ on c u) = ok_parts e in
      onward_got F F-after K s c w u ∙ sym (ap₂ (λ x p. F p (K x (rest p s))) same.0 same.1)
  behind_ok cut e = absurd (cc)
  behind_ok corrupt e = absurd (cc)

  behind_err : (g : Got A) {d : Fault} → Err d ≡ read_at c g → F c (onward K (rest c s) g) ≡ F c (met d)
  unfolding read_at onward
  behind_err (got w u) e = absurd (cc)
  behind_err cut {d} e = let same : d ≡ Cut = cc in rw same
  behind_err corrupt {d} e = let same : d ≡ Corrupt = cc in rw same

  module _ (f : Reader A) {x : R} where
    pub then_ok : {v : A} {q : Cursor} → Ok (v, q) ≡ read_at c (f (rest c s)) → x ≡ F q (K v (rest q s)) → x ≡ F c (◌>>=◌ f K (rest c s))
    unfolding ◌>>=◌
    then_ok e y = y ∙ sym (behind_ok (f (rest c s)) e)

    pub then_err : {d : Fault} → Err d ≡ read_at c (f (rest c s)) → x ≡ F c (met d) → x ≡ F c (◌>>=◌ f K (rest c s))
    unfolding ◌>>=◌
    then_err e y = y ∙ sym (behind_err (f (rest c s)) e)

-- ## Where the code answers for such a reading by a value and a place

module _ {A B : Type 0} (K : A → Reader B) (s : List ℕ) (c : Cursor) (f : Reader A) where
  pub read_on : {x : Result (B × Cursor) Fault} {v : A} {q : Cursor} → Ok (v, q) ≡ read_at c (f (rest c s)) → x ≡ read_at q (K v (rest q s))
      → x ≡ read_at c (◌>>=◌ f K (rest c s))
  read_on e y = then_ok read_at read_after K s c f e y

  pub read_stop : {d : Fault} → Err d ≡ read_at c (f (rest c s)) → Err d ≡ read_at c (◌>>=◌ f K (rest c s))
  read_stop {d} e = then_err read_at read_after K s c f e (sym (read_met c d))

-- ## A byte: data that ends there is cut

pub byte_read : (c : Cursor) (t : List ℕ) → ok_or (byte_at c t) Cut ≡ read_at c (byte t)
unfolding byte_at read_at byte
byte_read c [] = refl
byte_read c (b ∷ t) = refl

pub byte_here : (c : Cursor) (t : List ℕ) {b : ℕ} {q : Cursor} → Some (b, q) ≡ byte_at c t → Ok (b, q) ≡ read_at c (byte t)
byte_here c t e = ap (λ o. ok_or o Cut) e ∙ byte_read c t

pub byte_none : (c : Cursor) (t : List ℕ) → None ≡ byte_at c t → Err Cut ≡ read_at c (byte t)
byte_none c t e = ap (λ o. ok_or o Cut) e ∙ byte_read c t

-- the same of a byte that is asked for with the fault that its want is
pub byte_or : (c : Cursor) (t : List ℕ) {r : Option (ℕ × Cursor)} {x : Result (ℕ × Cursor) Fault} → x ≡ ok_or r Cut → r ≡ byte_at c t → x ≡ read_at c (byte t)
byte_or c t e h = e ∙ ap (λ o. ok_or o Cut) h ∙ byte_read c t
