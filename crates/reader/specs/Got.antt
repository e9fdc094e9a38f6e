-- Readings: what is read from the bytes that stand from a place on, and how many bytes that takes.
use Rattle.std.specs.Prelude.{ℕ, zero, suc, ◌+◌, List, [], ◌∷◌, drop}

-- what a reading takes from the section: a count of bytes, kept apart from places
pub record Spent : Type 0 where
  pub bytes : ℕ

abbrev pub nothing : Spent
nothing = record { bytes = 0 }

abbrev pub one : Spent
one = record { bytes = 1 }

abbrev pub both : Spent → Spent → Spent
both u v = record { bytes = u.bytes + v.bytes }

-- a value and what it takes; or the data ended inside (cut); or the bytes are no such value (corrupt)
pub data Got (A : Type 0) : Type 0 where
  got : A → Spent → Got A
  cut : Got A
  corrupt : Got A

-- the same reading, with another value
unfoldable pub over : {A B : Type 0} → (A → B) → Got A → Got B
over f (got a u) = got (f a) u
over f cut = cut
over f corrupt = corrupt

-- the same reading, behind what was spent before it
unfoldable pub after : {A : Type 0} → Spent → Got A → Got A
after u (got a v) = got a (both u v)
after u cut = cut
after u corrupt = corrupt

-- a reader is asked with the bytes from a place on
abbrev pub Reader : Type 0 → Type 0
Reader A = List ℕ → Got A

-- what is read behind a reading of the bytes `c`: the fault met first decides
unfoldable pub onward : {A B : Type 0} → (A → Reader B) → List ℕ → Got A → Got B
onward k c (got a u) = after u (k a (drop u.bytes c))
onward k c cut = cut
onward k c corrupt = corrupt

-- one reader, then another of the bytes behind it: `do` writes these one below the other
unfoldable pub ◌>>=◌ : {A B : Type 0} → Reader A → (A → Reader B) → Reader B
◌>>=◌ f k c = onward k c (f c)

-- a reader that takes no byte
unfoldable pub give : {A : Type 0} → A → Reader A
give a c = got a nothing

-- a reader that finds its bytes corrupt, whatever they are
unfoldable pub fault : {A : Type 0} → Reader A
fault c = corrupt

-- one byte
unfoldable pub byte : Reader ℕ
byte [] = cut
byte (b ∷ c) = got b one

-- n bytes
unfoldable pub bytes : ℕ → Reader (List ℕ)
bytes zero = give []
bytes (suc n) = do
  b ← byte
  bs ← bytes n
  give (b ∷ bs)
