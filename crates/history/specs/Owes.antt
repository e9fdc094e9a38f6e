-- What each public function of this crate owes.
use Rattle.std.specs.Prelude.{Bool, List, ◌≡◌, ℕ}
use Rattle.frame.specs.declared.Head.{Head}
use Rattle.frame.specs.declared.MainFrame.{MainFrame}
use Rattle.history.specs.declared.Heads.{Heads}
use Rattle.history.specs.declared.History.{History}
use Rattle.history.specs.History.{empty, pushed, sound}
use Rattle.history.specs.Parts.{heads_of, history_of, head_pushed}

abbrev pub EmptyOwes : History → Type 0
EmptyOwes r = r ≡ empty

abbrev pub PushedOwes : History → MainFrame → History → Type 0
PushedOwes h f r = r ≡ pushed h f

abbrev pub IsSoundOwes : History → Bool → Type 0
IsSoundOwes h r = r ≡ sound h

-- the history in parts
abbrev pub HeadsOwes : History → Heads → Type 0
HeadsOwes h r = r ≡ heads_of h

abbrev pub WithOwes : Heads → (last older : List ℕ) → History → Type 0
WithOwes h last older r = r ≡ history_of h last older

abbrev pub HeadPushedOwes : Heads → Head → Heads → Type 0
HeadPushedOwes h f r = r ≡ head_pushed h f

-- the values become last, and what was last becomes older
abbrev pub PushValuesOwes : (values last last' older' : List ℕ) → Type 0
PushValuesOwes values last last' older' = (last' ≡ values) × (older' ≡ last)
