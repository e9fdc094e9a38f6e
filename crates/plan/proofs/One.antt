-- One input admits one answer: any two answers that a promise of this crate admits are equal.
use Prim.Native.Nat.{ℕ}
use mathlib.Core.Bool.{Bool}
use mathlib.Core.List.{List}
use mathlib.Core.Path.{◌≡◌, sym, ◌∙◌}
use Rattle.plan.specs.declared.Definition.{Definition}
use Rattle.plan.specs.declared.FrameInterval.{FrameInterval}
use Rattle.std.specs.Prelude.{Option}
use Rattle.plan.specs.declared.Main.{Main}
use Rattle.plan.specs.declared.Numbers.{Numbers}
use Rattle.plan.specs.declared.Settings.{Settings}
use Rattle.plan.specs.declared.Slow.{Slow}
use Rattle.plan.specs.Owes.{CodeOwes, OfOwes, FieldsOwes, IsIntervalOwes, PlainOwes, NothingOwes, UnmetMainOwes, UnmetSlowOwes, AreSoundOwes, IsSoundOwes}

-- a promise is one equation to a definition
pub one_answer : {A : Type 0} {x r t : A} → r ≡ x → t ≡ x → r ≡ t
one_answer p q = p ∙ sym q

pub code_one : (x : Option ℕ) {r t : ℕ} → CodeOwes x r → CodeOwes x t → r ≡ t
code_one x = one_answer

pub of_one : (c : ℕ) {r t : Option ℕ} → OfOwes c r → OfOwes c t → r ≡ t
of_one c = one_answer

pub fields_one : (m : Main) {r t : ℕ} → FieldsOwes m r → FieldsOwes m t → r ≡ t
fields_one m = one_answer

pub is_interval_one : (v : FrameInterval) {r t : Bool} → IsIntervalOwes v r → IsIntervalOwes v t → r ≡ t
is_interval_one v = one_answer

pub plain_one : {r t : Settings} → PlainOwes r → PlainOwes t → r ≡ t
plain_one = one_answer

pub nothing_one : {r t : Definition} → NothingOwes r → NothingOwes t → r ≡ t
nothing_one = one_answer

pub unmet_main_one : (m : Main) (numbers : Numbers) {r t : Option ℕ} → UnmetMainOwes m numbers r → UnmetMainOwes m numbers t → r ≡ t
unmet_main_one m numbers = one_answer

pub unmet_slow_one : (s : Slow) (numbers : Numbers) {r t : Option ℕ} → UnmetSlowOwes s numbers r → UnmetSlowOwes s numbers t → r ≡ t
unmet_slow_one s numbers = one_answer

pub are_sound_one : (n : ℕ) (predictors encodings : List ℕ) (motor : ℕ) (numbers : Numbers) {r t : Bool}
    → AreSoundOwes n predictors encodings motor numbers r → AreSoundOwes n predictors encodings motor numbers t → r ≡ t
are_sound_one n predictors encodings motor numbers = one_answer

pub is_sound_one : (d : Definition) {r t : Bool} → IsSoundOwes d r → IsSoundOwes d t → r ≡ t
is_sound_one d = one_answer
