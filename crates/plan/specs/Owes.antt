-- What each public function of this crate owes.
use Rattle.std.specs.Prelude.{ℕ, Bool, Option, List, ◌≡◌, take}
use Rattle.plan.specs.declared.Definition.{Definition}
use Rattle.plan.specs.declared.FrameInterval.{FrameInterval}
use Rattle.plan.specs.declared.Main.{Main}
use Rattle.plan.specs.declared.Numbers.{Numbers}
use Rattle.plan.specs.declared.Settings.{Settings}
use Rattle.plan.specs.declared.Slow.{Slow}
use Rattle.plan.specs.Plan.{number_code, number_of, fields, plain, nothing}
use Rattle.plan.specs.Sound.{unmet_main, unmet_slow, sound_fields, is_interval, sound}

abbrev pub CodeOwes : Option ℕ → ℕ → Type 0
CodeOwes x r = r ≡ number_code x

abbrev pub OfOwes : ℕ → Option ℕ → Type 0
OfOwes c r = r ≡ number_of c

abbrev pub FieldsOwes : Main → ℕ → Type 0
FieldsOwes m r = r ≡ fields m

abbrev pub IsIntervalOwes : FrameInterval → Bool → Type 0
IsIntervalOwes v r = r ≡ is_interval v

abbrev pub PlainOwes : Settings → Type 0
PlainOwes r = r ≡ plain

abbrev pub NothingOwes : Definition → Type 0
NothingOwes r = r ≡ nothing

abbrev pub UnmetMainOwes : Main → Numbers → Option ℕ → Type 0
UnmetMainOwes m numbers r = r ≡ unmet_main m numbers

abbrev pub UnmetSlowOwes : Slow → Numbers → Option ℕ → Type 0
UnmetSlowOwes s numbers r = r ≡ unmet_slow s numbers

-- the first n of 62 predictors and encodings
abbrev pub AreSoundOwes : (n : ℕ) → (predictors encodings : List ℕ) → (motor : ℕ) → Numbers → Bool → Type 0
AreSoundOwes n ps es motor numbers r = r ≡ sound_fields 62 numbers motor n (take n ps) (take n es)

abbrev pub IsSoundOwes : Definition → Bool → Type 0
IsSoundOwes d r = r ≡ sound d
