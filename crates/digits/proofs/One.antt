-- One input admits one answer: any two answers that a promise of this crate admits are equal.
use Prim.Native.Nat.{ℕ}
use mathlib.Core.List.{List}
use mathlib.Core.Path.{◌≡◌, sym, ◌∙◌}
use Rattle.std.specs.Prelude.{Option}
use Rattle.digits.specs.Owes.{UntilOwes, DecimalOwes}

-- a promise is one equation to a definition
one_answer : {A : Type 0} {x r t : A} → r ≡ x → t ≡ x → r ≡ t
one_answer p q = p ∙ sym q

pub until_one : (s : List ℕ) (b : ℕ) {r t : ℕ} → UntilOwes s b r → UntilOwes s b t → r ≡ t
until_one s b = one_answer

pub decimal_one : (s : List ℕ) {r t : Option ℕ} → DecimalOwes s r → DecimalOwes s t → r ≡ t
decimal_one s = one_answer
