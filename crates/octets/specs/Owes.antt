-- What each public function of this crate owes. Of a buffer it says the whole content afterwards: the bytes at a place, and all others as they were.
use Rattle.std.specs.Prelude.{ℕ, List, ◌≡◌, length, take, drop}
use Rattle.std.proofs.lemmas.List.Edits.{sets}
use Rattle.octets.specs.Bytes.{le32, le64, words, longs, num32, num64, nums}

abbrev pub Put32Owes : (buf : List ℕ) → (at v : ℕ) → (after : List ℕ) → Type 0
Put32Owes buf at v after = after ≡ sets buf at (le32 v)

abbrev pub Put64Owes : (buf : List ℕ) → (at v : ℕ) → (after : List ℕ) → Type 0
Put64Owes buf at v after = after ≡ sets buf at (le64 v)

-- put_values, of values of four bytes and of eight
abbrev pub PutValuesOwes : (buf : List ℕ) → (at : ℕ) → (values after : List ℕ) → Type 0
PutValuesOwes buf at values after = after ≡ sets buf at (words values)

abbrev pub PutLongsOwes : (buf : List ℕ) → (at : ℕ) → (numbers after : List ℕ) → Type 0
PutLongsOwes buf at numbers after = after ≡ sets buf at (longs numbers)

abbrev pub PutBytesOwes : (buf : List ℕ) → (at : ℕ) → (bytes after : List ℕ) → Type 0
PutBytesOwes buf at bytes after = after ≡ sets buf at bytes

abbrev pub Take32Owes : (buf : List ℕ) → (at r : ℕ) → Type 0
Take32Owes buf at r = r ≡ num32 (drop at buf)

abbrev pub Take64Owes : (buf : List ℕ) → (at r : ℕ) → Type 0
Take64Owes buf at r = r ≡ num64 (drop at buf)

-- as many as the lent array has places, whatever these held
abbrev pub TakeValuesOwes : (buf : List ℕ) → (at : ℕ) → (values after : List ℕ) → Type 0
TakeValuesOwes buf at values after = after ≡ nums (length values) (drop at buf)

abbrev pub TakeBytesOwes : (buf : List ℕ) → (at : ℕ) → (bytes after : List ℕ) → Type 0
TakeBytesOwes buf at bytes after = after ≡ take (length bytes) (drop at buf)
