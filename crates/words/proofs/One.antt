-- One input admits one answer: any two answers that a promise of this crate admits are equal.
use Prim.Native.Nat.{ℕ}
use mathlib.Core.Bool.{Bool}
use mathlib.Core.List.{List}
use mathlib.Core.Path.{◌≡◌, ap}
use Rattle.std.specs.Prelude.{Option}
use Rattle.plan.proofs.One.{one_answer}
use Rattle.plan.specs.declared.FrameInterval.{FrameInterval}
use Rattle.plan.specs.declared.Numbers.{Numbers}
use Rattle.words.specs.Owes.{SplitOwes, FirstOwes, BehindOwes, IsHeadingOwes, HexOwes, BytesOwes, UnescapeOwes, WordOwes}
use Rattle.words.specs.Owes.{NumbersOwes, IntervalOwes, BehindThreeOwes}

pub split_one : (s : List ℕ) (b : ℕ) {r t behind other : List ℕ} → SplitOwes s b r behind → SplitOwes s b t other → (r ≡ t) × (behind ≡ other)
split_one s b p q = (one_answer p.0 q.0, one_answer p.1 q.1)

pub first_one : (s : List ℕ) {r t : List ℕ} → FirstOwes s r → FirstOwes s t → r ≡ t
first_one s = one_answer

pub behind_one : (s : List ℕ) {r t : List ℕ} → BehindOwes s r → BehindOwes s t → r ≡ t
behind_one s = one_answer

pub is_heading_one : (s : List ℕ) {r t : Bool} → IsHeadingOwes s r → IsHeadingOwes s t → r ≡ t
is_heading_one s = one_answer

pub hex_one : (high low : ℕ) {r t : Option ℕ} → HexOwes high low r → HexOwes high low t → r ≡ t
hex_one high low = one_answer

pub numbers_one : (s : List ℕ) {r t : Option Numbers} → NumbersOwes s r → NumbersOwes s t → r ≡ t
numbers_one s = one_answer

pub interval_one : (s : List ℕ) {r t : Option FrameInterval} → IntervalOwes s r → IntervalOwes s t → r ≡ t
interval_one s = one_answer

pub behind_three_one : (s : List ℕ) {r t : List ℕ} → BehindThreeOwes s r → BehindThreeOwes s t → r ≡ t
behind_three_one s = one_answer

-- an answer, and all that the lent buffer holds
one_answer_put : {A B : Type 0} {x : A × B} {r t : A} {after other : B} → (r, after) ≡ x → (t, other) ≡ x → (r ≡ t) × (after ≡ other)
one_answer_put p q = (ap (λ x. x.0) (one_answer p q), ap (λ x. x.1) (one_answer p q))

pub bytes_one : (text out : List ℕ) {r t : Option ℕ} {after other : List ℕ}
    → BytesOwes text out r after → BytesOwes text out t other → (r ≡ t) × (after ≡ other)
bytes_one text out = one_answer_put

pub unescape_one : (text out : List ℕ) {r t : Option ℕ} {after other : List ℕ}
    → UnescapeOwes text out r after → UnescapeOwes text out t other → (r ≡ t) × (after ≡ other)
unescape_one text out = one_answer_put

pub word_one : (text out : List ℕ) {r t : Option ℕ} {after other : List ℕ} → WordOwes text out r after → WordOwes text out t other → (r ≡ t) × (after ≡ other)
word_one text out = one_answer_put
