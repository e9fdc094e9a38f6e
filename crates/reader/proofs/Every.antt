-- Properties of what a reader gives, carried from its parts to the whole; and that an integer that fits is had back from its pattern.
use Prim.Native.Nat.{ℕ, zero, suc, ◌<◌}
use mathlib.Core.List.{List, [], ◌∷◌, map}
use mathlib.Core.Path.{◌≡◌, refl, ap, ap₂}
use lib.IntN.{ℤ}
use lib.ListN.{length, take, drop}
use Rattle.bits.specs.Pattern.{pattern, meant, Fits32}
use Rattle.bits.proofs.Laws.{meant_pattern}
use Rattle.reader.specs.Got.{Spent, Got, got, cut, corrupt, over, after, Reader, onward, ◌>>=◌, give, fault, byte, bytes}

-- each element of a list has the property
abbrev pub Each : {A : Type 0} → (A → Type 0) → List A → Type 0
Each P [] = Unit
Each P (x ∷ xs) = P x × Each P xs

-- a list of so many
abbrev pub Counts : {A : Type 0} → ℕ → List A → Type 0
Counts n xs = length xs ≡ n

-- what a section is made of
abbrev pub Bytes : List ℕ → Type 0
Bytes c = Each (λ b. b < 256) c

-- the value that was got has the property
abbrev pub Every : {A : Type 0} → (A → Type 0) → Got A → Type 0
Every P (got a u) = P a
Every P cut = Unit
Every P corrupt = Unit

-- of bytes, the reader gives only values that have the property
pub record Reads {A : Type 0} (P : A → Type 0) (r : Reader A) : Type 0 where
  pub every : (c : List ℕ) → Bytes c → Every P (r c)

module _ {A : Type 0} (P : A → Type 0) where
  -- the rest of such a list, and its beginning, are such lists
  pub drop_each : (n : ℕ) (xs : List A) → Each P xs → Each P (drop n xs)
  drop_each zero xs h = h
  drop_each (suc n) [] h = tt
  drop_each (suc n) (x ∷ xs) h = drop_each n xs h.1

  pub take_each : (n : ℕ) (xs : List A) → Each P xs → Each P (take n xs)
  take_each zero xs h = tt
  take_each (suc n) [] h = tt
  take_each (suc n) (x ∷ xs) h = (h.0, take_each n xs h.1)

  -- where a reading stands says nothing of its value
  pub after_every : (u : Spent) (g : Got A) → Every P g → Every P (after u g)
  unfolding after
  after_every u (got a v) h = h
  after_every u cut h = tt
  after_every u corrupt h = tt

module _ {A B : Type 0} (P : A → Type 0) (Q : B → Type 0) where
  -- what follows is asked with the bytes that are left
  pub onward_every : {k : A → Reader B} → ((a : A) → P a → Reads Q (k a)) → (c : List ℕ) → Bytes c → (g : Got A) → Every P g → Every Q (onward k c g)
  unfolding onward
  onward_every {k} s c b (got a u) h =
      after_every Q u (k a (drop u.bytes c)) ((s a h).every (drop u.bytes c) (drop_each (λ b. b < 256) u.bytes c b))
  onward_every s c b cut h = tt
  onward_every s c b corrupt h = tt

-- one reader, then another for each value that the first may give
pub then_reads : {A B : Type 0} {P : A → Type 0} {Q : B → Type 0} {r : Reader A} {k : A → Reader B}
    → Reads P r → ((a : A) → P a → Reads Q (k a)) → Reads Q (◌>>=◌ r k)
unfolding ◌>>=◌
then_reads {P} {Q} {r} f s = record { every = λ c b. onward_every P Q s c b (r c) (f.every c b) }

-- a given value, and no value at all
pub give_reads : {A : Type 0} {P : A → Type 0} (a : A) → P a → Reads P (give a)
unfolding give
give_reads a h = record { every = λ c b. h }

pub fault_reads : {A : Type 0} {P : A → Type 0} → Reads P fault
unfolding fault
fault_reads = record { every = λ c b. tt }

-- where nothing is asked of its values, any reader will do
any_value : {A : Type 0} (g : Got A) → Every (λ _. Unit) g
any_value (got a u) = tt
any_value cut = tt
any_value corrupt = tt

pub any_reads : {A : Type 0} (r : Reader A) → Reads (λ _. Unit) r
any_reads r = record { every = λ c b. any_value (r c) }

-- a byte of bytes is one
pub byte_reads : Reads (λ b. b < 256) byte
unfolding byte
byte_reads = record { every = one }
  where
    one : (c : List ℕ) → Bytes c → Every (λ b. b < 256) (byte c)
    one [] h = tt
    one (b ∷ c) h = h.0

-- n bytes are n, and bytes
pub bytes_reads : (n : ℕ) → Reads (λ bs. (length bs ≡ n) × Bytes bs) (bytes n)
unfolding bytes
bytes_reads zero = give_reads _ (refl, tt)
bytes_reads (suc n) = then_reads byte_reads (λ b hb. then_reads (bytes_reads n) (λ bs h. give_reads _ (ap suc h.0, (hb, h.1))))

-- what is undone value by value is undone in a list, and in a reading
module _ {A B : Type 0} (P : A → Type 0) (f : A → B) (back : B → A) (undone : (a : A) → P a → back (f a) ≡ a) where
  pub map_undone : (xs : List A) → Each P xs → map back (map f xs) ≡ xs
  map_undone [] h = refl
  map_undone (x ∷ xs) h = ap₂ ◌∷◌ (undone x h.0) (map_undone xs h.1)

  pub over_undone : (g : Got A) → Every P g → over back (over f g) ≡ g
  unfolding over
  over_undone (got a u) h = ap (λ x. got x u) (undone a h)
  over_undone cut h = refl
  over_undone corrupt h = refl

-- nothing is lost of a number that leaves as a pattern
pub number_meant : {r : Reader ℤ} → Reads Fits32 r → (c : List ℕ) → Bytes c → over meant (over pattern (r c)) ≡ r c
number_meant {r} f c b = over_undone Fits32 pattern meant meant_pattern (r c) (f.every c b)

-- and nothing of a group of them
pub group_meant : {r : Reader (List ℤ)} → Reads (Each Fits32) r → (c : List ℕ) → Bytes c → over (map meant) (over (map pattern) (r c)) ≡ r c
group_meant {r} f c b = over_undone (Each Fits32) (map pattern) (map meant) (map_undone Fits32 pattern meant meant_pattern) (r c) (f.every c b)
