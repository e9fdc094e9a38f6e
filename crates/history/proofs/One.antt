-- One input admits one answer: any two answers that a promise of this crate admits are equal.
use mathlib.Core.Bool.{Bool}
use mathlib.Core.List.{List}
use mathlib.Core.Path.{◌≡◌}
use Prim.Native.Nat.{ℕ}
use Rattle.frame.specs.declared.Head.{Head}
use Rattle.frame.specs.declared.MainFrame.{MainFrame}
use Rattle.reader.proofs.One.{one_answer}
use Rattle.history.specs.declared.Heads.{Heads}
use Rattle.history.specs.declared.History.{History}
use Rattle.history.specs.Owes.{EmptyOwes, PushedOwes, IsSoundOwes, HeadsOwes, WithOwes, HeadPushedOwes, PushValuesOwes}

pub empty_one : {r t : History} → EmptyOwes r → EmptyOwes t → r ≡ t
empty_one = one_answer

-- of `pushed`, `push` and `push_through` alike: each owes the same of the history before, the frame and the history after
pub pushed_one : (h : History) (f : MainFrame) {r t : History} → PushedOwes h f r → PushedOwes h f t → r ≡ t
pushed_one h f = one_answer

pub is_sound_one : (h : History) {r t : Bool} → IsSoundOwes h r → IsSoundOwes h t → r ≡ t
is_sound_one h = one_answer

-- the history in parts
pub heads_one : (h : History) {r t : Heads} → HeadsOwes h r → HeadsOwes h t → r ≡ t
heads_one h = one_answer

pub with_one : (h : Heads) (last older : List ℕ) {r t : History} → WithOwes h last older r → WithOwes h last older t → r ≡ t
with_one h last older = one_answer

pub head_pushed_one : (h : Heads) (f : Head) {r t : Heads} → HeadPushedOwes h f r → HeadPushedOwes h f t → r ≡ t
head_pushed_one h f = one_answer

pub push_values_one : (values last : List ℕ) {r t r' t' : List ℕ} → PushValuesOwes values last r r' → PushValuesOwes values last t t' → (r ≡ t) × (r' ≡ t')
push_values_one values last p q = (one_answer p.0 q.0, one_answer p.1 q.1)
