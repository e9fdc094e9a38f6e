-- What the readers of a section keep to, stated once: locality, progress and stability. The ways of putting readers together keep to it,
-- so that a reader's own proof is a line a step.
use Prim.Native.Nat.{ℕ, zero, suc, ◌+◌, ◌≤◌}
use mathlib.Core.Bool.{Bool, cond}
use mathlib.Core.List.{List, [], ◌∷◌, ◌++◌}
use mathlib.Core.Path.{◌≡◌, refl, sym, ap, subst, ◌∙◌}
use native.Mathlib.Omega.{arith}
use lib.ListN.{length, drop, length-drop}
use lib.Seq.{drop-append-le, drop-append-add}
use Rattle.bits.proofs.Laws.{by_test}
use Rattle.reader.proofs.Reading.{ok_parts}
use Rattle.reader.specs.declared.Cursor.{Cursor}
use Rattle.std.specs.Prelude.{Ok}
use Rattle.reader.specs.Got.{Spent, Got, got, cut, corrupt, after, Reader, onward, ◌>>=◌, give, fault, byte, bytes}
use Rattle.reader.specs.Place.{rest, on, read_at, group_at}

-- Locality, for any reader at all: the reading at |pre| + k of pre ++ c is the reading at k of c (what is read and what is spent; the places differ by |pre|).
pub local : {A : Type 0} (f : Reader A) (pre c : List ℕ) (k : ℕ) → f (rest (record { at = length pre + k }) (pre ++ c)) ≡ f (rest (record { at = k }) c)
local f pre c k = ap f (drop-append-add pre c k)

-- a reading of `c` uses at least `least` bytes, and no more than there are
abbrev pub Within : {A : Type 0} → ℕ → List ℕ → Got A → Type 0
Within least c (got a u) = (least ≤ u.bytes) × (u.bytes ≤ length c)
Within least c cut = Unit
Within least c corrupt = Unit

-- what was got, or is corrupt, is so in the second reading too
abbrev pub Kept : {A : Type 0} → Got A → Got A → Type 0
Kept (got a u) g = g ≡ got a u
Kept cut g = Unit
Kept corrupt g = g ≡ corrupt

-- Progress, and stability when bytes are appended.
pub record Lawful {A : Type 0} (least : ℕ) (f : Reader A) : Type 0 where
  pub within : (c : List ℕ) → Within least c (f c)
  pub stable : (c d : List ℕ) → Kept (f c) (f (c ++ d))

-- ## Single readers

pub lawful_give : {A : Type 0} (a : A) → Lawful 0 (give a)
unfolding give
lawful_give a = record { within = λ c. omega arith; stable = λ c d. refl }

pub lawful_fault : {A : Type 0} (least : ℕ) → Lawful {A = A} least fault
unfolding fault
lawful_fault least = record { within = λ c. tt; stable = λ c d. refl }

byte_within : (c : List ℕ) → Within 1 c (byte c)
unfolding byte
byte_within [] = tt
byte_within (b ∷ c) = omega arith

byte_stable : (c d : List ℕ) → Kept (byte c) (byte (c ++ d))
unfolding byte
byte_stable [] d = tt
byte_stable (b ∷ c) d = refl

pub lawful_byte : Lawful 1 byte
lawful_byte = record { within = byte_within; stable = byte_stable }

-- ## Fewer bytes asked, and a choice

fewer : {A : Type 0} (l m : ℕ) (c : List ℕ) (g : Got A) → l ≤ m → Within m c g → Within l c g
fewer l m c (got a u) h w = omega arith
fewer l m c cut h w = tt
fewer l m c corrupt h w = tt

pub lawful_fewer : {A : Type 0} (l : ℕ) {m : ℕ} {f : Reader A} → l ≤ m → Lawful m f → Lawful l f
lawful_fewer l {m} {f} h r = record { within = λ c. fewer l m c (f c) h (r.within c); stable = r.stable }

pub lawful_cond : {A : Type 0} {l : ℕ} {f g : Reader A} (t : Bool) → Lawful l f → Lawful l g → Lawful l (cond t f g)
lawful_cond {l = l} t p q = by_test (Lawful l) t (λ e. p) (λ e. q)

-- ## One reader after another

after_within : {A : Type 0} (l m : ℕ) (c : List ℕ) (u : Spent) (g : Got A)
    → (l ≤ u.bytes) × (u.bytes ≤ length c) → Within m (drop u.bytes c) g → Within (l + m) c (after u g)
unfolding after
after_within l m c u (got a v) b w = omega (arith, simp length-drop at w.1)
after_within l m c u cut b w = tt
after_within l m c u corrupt b w = tt

after_kept : {A : Type 0} (u : Spent) (g g' : Got A) → Kept g g' → Kept (after u g) (after u g')
unfolding after
after_kept u (got a v) g' e = ap (after u) e
after_kept u cut g' e = tt
after_kept u corrupt g' e = ap (after u) e

module _ {A B : Type 0} (l m : ℕ) (k : A → Reader B) (laws : (a : A) → Lawful m (k a)) where
  onward_within : (c : List ℕ) (g : Got A) → Within l c g → Within (l + m) c (onward k c g)
  unfolding onward
  onward_within c (got a u) w = after_within l m c u (k a (drop u.bytes c)) w ((laws a).within (drop u.bytes c))
  onward_within c cut w = tt
  onward_within c corrupt w = tt

  onward_kept : (c d : List ℕ) (g g' : Got A) → Within l c g → Kept g g' → Kept (onward k c g) (onward k (c ++ d) g')
  unfolding onward
  onward_kept c d (got a u) g' w e =
      let same : onward k (c ++ d) g' ≡ after u (k a (drop u.bytes c ++ d)) =
      ap (onward k (c ++ d)) e ∙ ap (λ x. after u (k a x)) (drop-append-le u.bytes c d w.1) in
      subst (λ x. Kept (after u (k a (drop u.bytes c))) x) (sym same) (after_kept u _ _ ((laws a).stable (drop u.bytes c) d))
  onward_kept c d cut g' w e = tt
  onward_kept c d corrupt g' w e = ap (onward k (c ++ d)) e

pub lawful_then : {A B : Type 0} {l m : ℕ} {f : Reader A} {k : A → Reader B} → Lawful l f → ((a : A) → Lawful m (k a)) → Lawful (l + m) (◌>>=◌ f k)
unfolding ◌>>=◌
lawful_then {l = l} {m} {f} {k} r laws =
    record {
      within = λ c. onward_within l m k laws c (f c) (r.within c);
      stable = λ c d. onward_kept l m k laws c d (f c) (f (c ++ d)) (r.within c) (r.stable c d);
    }

-- a reader that ends in `give`
pub lawful_map : {A B : Type 0} {l : ℕ} {f : Reader A} (h : A → B) → Lawful l f → Lawful l (◌>>=◌ f (λ a. give (h a)))
lawful_map {l = l} h r = lawful_fewer l (omega arith) (lawful_then r (λ a. lawful_give (h a)))

pub lawful_bytes : (n : ℕ) → Lawful n (bytes n)
unfolding bytes
lawful_bytes zero = lawful_give []
lawful_bytes (suc n) = lawful_fewer (suc n) (omega arith) (lawful_then lawful_byte (λ b. lawful_map (λ bs. b ∷ bs) (lawful_bytes n)))

-- ## Progress at places: the next place lies at least `l` bytes further on, and within the section

module _ (s : List ℕ) (c : Cursor) (l : ℕ) (inside : c.at ≤ length s) where
  abbrev Further : Cursor → Type 0
  Further n = (c.at + l ≤ n.at) × (n.at ≤ length s)

  further : (u : Spent) {n : Cursor} → (l ≤ u.bytes) × (u.bytes ≤ length (rest c s)) → on c u ≡ n → Further n
  further u w e = subst Further e (omega (arith, simp length-drop at w.1))

  pub read_progress : {A : Type 0} (g : Got A) {v : A} {n : Cursor} → Within l (rest c s) g → read_at c g ≡ Ok (v, n) → Further n
  unfolding read_at
  read_progress (got v u) w e = further u w (ok_parts e).1
  read_progress cut w e = absurd (cc)
  read_progress corrupt w e = absurd (cc)

  pub group_progress : (g : Got (List ℕ)) {n : Cursor} → Within l (rest c s) g → (group_at c g).step ≡ Ok n → Further n
  unfolding group_at
  group_progress (got vs u) w e = further u w (cc)
  group_progress cut w e = absurd (cc)
  group_progress corrupt w e = absurd (cc)
