-- How many bytes a number takes.
use Rattle.std.specs.Prelude.{ℕ, ◌≡◌, refl, length}
use Rattle.octets.specs.Bytes.{le32, le64}

pub length_le32 : (v : ℕ) → length (le32 v) ≡ 4
unfolding le32
length_le32 v = refl

pub length_le64 : (v : ℕ) → length (le64 v) ≡ 8
unfolding le64 le32
length_le64 v = refl
