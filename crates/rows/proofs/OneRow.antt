-- One row: how many values it has, how its bytes are put behind each other, and how many they are.
use Prim.Native.Nat.{ℕ, ◌+◌, ◌*◌, ◌≤◌}
use mathlib.Core.List.{List, [], ◌∷◌, ◌++◌}
use mathlib.Core.Path.{◌≡◌, refl, ◌∙◌}
use native.Mathlib.Omega.{arith}
use lib.ListN.{length, take, replicate, length-replicate}
use lib.Seq.{sets, length-sets, length-take-le}
use Rattle.plan.specs.declared.Definition.{Definition}
use Rattle.reader.specs.Place.{padded}
use Rattle.section.specs.declared.Answer.{Answer}
use Rattle.section.specs.declared.Answer.TheVariants.{Passed, Rejected, Event, Intra, Inter, Slow, Over, Refused}
use Rattle.section.specs.Walk.{Outcome}
use Rattle.octets.specs.Bytes.{le32, le64, words}
use Rattle.octets.proofs.Stores.{then_put, length_words}
use Rattle.rows.specs.Rows.{Row, width, row_length, row_for, row_bytes, row_of}

-- ## How many values

pub width_few : (d : Definition) → width d ≤ 62
unfolding width
width_few d = omega arith

pub row_length_some : (d : Definition) → 36 ≤ row_length d
unfolding row_length width
row_length_some d = omega arith

-- ## Its bytes

module _ (b₀ : List ℕ) (at n : ℕ) (r : Row) where
  pub put_row_all : {b₁ b₂ b₃ b₄ b₅ : List ℕ} → b₁ ≡ sets b₀ at (le32 r.letter) → b₂ ≡ sets b₁ (at + 4) (le32 r.iteration)
      → b₃ ≡ sets b₂ (at + 8) (le64 r.place) → b₄ ≡ sets b₃ (at + 16) (le64 r.time) → b₅ ≡ sets b₄ (at + 24) (words (take n r.values))
      → b₅ ≡ sets b₀ at (row_bytes n r)
  unfolding row_bytes le32 le64
  put_row_all e f g h i =
      let a = le32 r.letter in
      let b = le32 r.iteration in
      let c = le64 r.place in
      let two = then_put b₀ at a b e f refl in
      let three = then_put b₀ at (a ++ b) c two g refl in
      let four = then_put b₀ at (a ++ b ++ c) (le64 r.time) three h refl in
      then_put b₀ at (a ++ b ++ c ++ le64 r.time) (words (take n r.values)) four i refl

-- ## How many bytes

pub length_row : (n : ℕ) (r : Row) → n ≤ length r.values → length (row_bytes n r) ≡ 24 + 4 * n
unfolding row_bytes le32 le64
length_row n r h = omega (arith, length_words (take n r.values), length-take-le n r.values h)

shown_values : (a : Answer) (vs : List ℕ) → length (row_for a vs).values ≡ length vs
unfolding row_for
shown_values Passed vs = refl
shown_values (Rejected k p) vs = refl
shown_values (Event x) vs = length-sets vs 0 (x.event.code ∷ x.event.first ∷ x.event.second ∷ [])
shown_values (Intra x) vs = refl
shown_values (Inter x) vs = refl
shown_values (Slow x) vs = refl
shown_values (Over e) vs = refl
shown_values (Refused why) vs = refl

pub length_row_of : (d : Definition) (o : Outcome) → length (row_of d o) ≡ row_length d
unfolding row_of row_length
length_row_of d o =
    let vs = padded 62 o.fields in
    let rooms = shown_values o.answer vs ∙ length-sets (replicate 62 0) 0 o.fields ∙ length-replicate {A = ℕ} 62 0 in
    length_row (width d) (row_for o.answer vs) (omega (arith, width_few d, rooms))
