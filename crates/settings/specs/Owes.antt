-- What each public function of this crate owes.
use Rattle.std.specs.Prelude.{ℕ, Bool, List, ◌≡◌}
use Rattle.plan.specs.declared.Numbers.{Numbers}
use Rattle.plan.specs.declared.Settings.{Settings}
use Rattle.settings.specs.declared.Said.{Said}
use Rattle.settings.specs.Said.{said_of}
use Rattle.settings.specs.Stored.{are_settings, numbers_in, settings_in, with_settings}

abbrev pub ReadOwes : List ℕ → Said → Type 0
ReadOwes log r = r ≡ said_of log

abbrev pub AreSettingsOwes : List ℕ → Bool → Type 0
AreSettingsOwes bs r = r ≡ are_settings bs

abbrev pub NumbersInOwes : List ℕ → Numbers → Type 0
NumbersInOwes bs r = r ≡ numbers_in bs

abbrev pub SettingsInOwes : List ℕ → Settings → Type 0
SettingsInOwes bs r = r ≡ settings_in bs

-- a buffer before and after it
abbrev pub PutOwes : Numbers → Settings → (buf after : List ℕ) → Type 0
PutOwes n s buf after = after ≡ with_settings n s buf
