-- Fields by their encoding: the number of one by itself, and the numbers of a group.
use Prim.Native.Nat.{ℕ, ◌<◌}
use mathlib.Core.Bool.{Bool, true, false, cond}
use mathlib.Core.List.{List, map}
use mathlib.Core.Path.{◌≡◌, refl, ap}
use native.Mathlib.Omega.{arith}
use lib.Dec.{eqb}
use borrow.Author.Tests.{ne_eqb, eqb-true}
use Rattle.std.specs.Prelude.{Result, Err}
use Rattle.bits.specs.Pattern.{pattern}
use Rattle.bits.proofs.Laws.{by_test}
use Rattle.reader.specs.declared.Cursor.{Cursor}
use Rattle.reader.specs.declared.Fault.{Fault}
use Rattle.reader.specs.declared.Fault.TheVariants.{Corrupt}
use Rattle.reader.specs.declared.Group.{Group}
use Rattle.reader.specs.Got.{over, Reader, fault}
use Rattle.reader.specs.Place.{rest, read_at, group_at}
use Rattle.decode.specs.TaggedVariable.{encoding6}
use Rattle.decode.specs.Variable.{encoding0, encoding1, encoding3, encoding9}
use Rattle.tagged.specs.Tagged16.{encoding8}
use Rattle.tagged.specs.Tagged32.{encoding7}
use Rattle.raws.specs.Chunks.{single}
use Rattle.raws.specs.Groups.{size, alone, patterned, patterns, group}

-- ## A number by itself

module _ (e : ℕ) (s : List ℕ) (c : Cursor) {r : Result (ℕ × Cursor) Fault} where
  pub of_0 : r ≡ read_at c (over pattern (encoding0 (rest c s))) → e ≡ 0 → r ≡ read_at c (single e (rest c s))
  unfolding single patterned
  of_0 p h = rw h p

  pub of_1 : r ≡ read_at c (encoding1 (rest c s)) → e ≡ 1 → r ≡ read_at c (single e (rest c s))
  unfolding single
  of_1 p h = rw h p

  pub of_3 : r ≡ read_at c (over pattern (encoding3 (rest c s))) → e ≡ 3 → r ≡ read_at c (single e (rest c s))
  unfolding single patterned
  of_3 p h = rw h p

  pub of_9 : ((t : List ℕ) → r ≡ read_at c (encoding9 (rest c t))) → e ≡ 9 → r ≡ read_at c (single e (rest c s))
  unfolding single
  of_9 p h = rw h (p s)

-- what is no encoding
pub of_none : (e : ℕ) (s : List ℕ) (c : Cursor) → (e ≡ 0 → ⊥) × (e ≡ 1 → ⊥) × (e ≡ 3 → ⊥) × (e ≡ 9 → ⊥) → Err Corrupt ≡ read_at c (single e (rest c s))
unfolding single fault read_at
of_none e s c h = rw (ne_eqb e 0 h.0, ne_eqb e 1 h.1, ne_eqb e 3 h.2, ne_eqb e 9 h.3)

-- ## A group

module _ (e n : ℕ) (s : List ℕ) (c : Cursor) {x : Group} where
  pub of_6 : x ≡ group_at c (over (map pattern) (encoding6 n (rest c s))) → e ≡ 6 → x ≡ group_at c (group e n (rest c s))
  unfolding group patterns
  of_6 p h = rw h p

  pub of_7 : x ≡ group_at c (over (map pattern) (encoding7 (rest c s))) → e ≡ 7 → x ≡ group_at c (group e n (rest c s))
  unfolding group patterns
  of_7 p h = rw h p

  pub of_8 : x ≡ group_at c (over (map pattern) (encoding8 (rest c s))) → e ≡ 8 → x ≡ group_at c (group e n (rest c s))
  unfolding group patterns
  of_8 p h = rw h p

-- the last of them: it is neither of the others, and its size is more than one
pub is_8 : (e : ℕ) → (e ≡ 6 → ⊥) × (e ≡ 7 → ⊥) → 1 < size e → e ≡ 8
unfolding size
is_8 e h =
    by_test (λ k. 1 < k → e ≡ 8) (eqb e 6) (λ t. absurd (h.0 (eqb-true e 6 t)))
    (λ _. by_test (λ k. 1 < k → e ≡ 8) (eqb e 7) (λ t. absurd (h.1 (eqb-true e 7 t)))
    (λ _. by_test (λ k. 1 < k → e ≡ 8) (eqb e 8) (λ t _. eqb-true e 8 t) (λ _ more. absurd (let b : ⊥ = omega arith in b))))

-- ## A field that stands in no group

-- its encoding is none that has groups
unlike : (e k : ℕ) → size e ≡ 1 → 1 < size k → e ≡ k → ⊥
unlike e k h more q = omega (arith, ap size q)

-- a choice among numbers by themselves is one of what they are
picked : (b : Bool) (r y : Reader ℕ) (x : Reader (List ℕ)) (c : List ℕ) → x c ≡ alone y c → cond b (alone r) x c ≡ alone (cond b r y) c
picked true r y x c h = refl
picked false r y x c h = h

no_number : (c : List ℕ) → fault c ≡ alone fault c
unfolding fault alone over
no_number c = refl

-- what its encoding reads as a group is its number
pub lone_group : (e n : ℕ) (c : List ℕ) → size e ≡ 1 → group e n c ≡ alone (single e) c
unfolding group single size
lone_group e n c h =
    rw (ne_eqb e 6 (unlike e 6 h (omega arith)), ne_eqb e 7 (unlike e 7 h (omega arith)), ne_eqb e 8 (unlike e 8 h (omega arith)))
    (picked (eqb e 0) _ _ _ c (picked (eqb e 1) _ _ _ c (picked (eqb e 3) _ _ _ c (picked (eqb e 9) _ _ _ c (no_number c)))))
