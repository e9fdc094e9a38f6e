-- A line of a case taken apart: its words, with one space between two.
use Rattle.std.specs.Prelude.{ℕ, suc, ◌+◌, ◌-◌, ◌*◌, Bool, false, cond, ◌&&◌, List, [], ◌∷◌, eqb, leb, take, drop, Option, Some, None}
use Rattle.digits.specs.Digits.{before}

unfoldable pub first_word : List ℕ → List ℕ
first_word s = take (before 32 s) s

-- behind the first word and its space
unfoldable pub other_words : List ℕ → List ℕ
other_words s = drop (suc (before 32 s)) s

-- a number up to a largest one
unfoldable pub up_to : (most : ℕ) → Option ℕ → Option ℕ
up_to most None = None
up_to most (Some n) = cond (leb n most) (Some n) None

-- what three are together: one that is none makes all none
unfoldable pub each_of : {A B : Type 0} → (A → A → A → B) → (first second third : Option A) → Option B
each_of together None second third = None
each_of together (Some a) None third = None
each_of together (Some a) (Some b) None = None
each_of together (Some a) (Some b) (Some c) = Some (together a b c)

-- what the first three words say, each by itself and then together
abbrev pub three_of : {A B : Type 0} → (List ℕ → Option A) → (A → A → A → B) → List ℕ → Option B
three_of said together s =
    each_of together (said (first_word s)) (said (first_word (other_words s))) (said (first_word (other_words (other_words s))))

-- `#` begins a heading
unfoldable pub heading : List ℕ → Bool
heading [] = false
heading (b ∷ s) = eqb b 35

-- the value of a hexadecimal digit, in small letters
unfoldable pub nibble : ℕ → Option ℕ
nibble b = cond (leb 48 b && leb b 57) (Some (b - 48)) (cond (leb 97 b && leb b 102) (Some (b - 87)) None)

-- the byte whose halves are two digits
unfoldable pub joined : (high low : Option ℕ) → Option ℕ
joined None low = None
joined (Some h) None = None
joined (Some h) (Some l) = Some (16 * h + l)

-- the byte that two hexadecimal digits write
unfoldable pub hex_of : (high low : ℕ) → Option ℕ
hex_of high low = joined (nibble high) (nibble low)
