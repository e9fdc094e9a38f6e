-- One input admits one answer: any two answers that a promise of this crate admits are equal, and so are the buffers behind them.
use Prim.Native.Nat.{ℕ}
use mathlib.Core.Bool.{Bool}
use mathlib.Core.List.{List}
use mathlib.Core.Path.{◌≡◌}
use Rattle.plan.specs.declared.Numbers.{Numbers}
use Rattle.plan.specs.declared.Settings.{Settings}
use Rattle.plan.proofs.One.{one_answer}
use Rattle.settings.specs.declared.Said.{Said}
use Rattle.settings.specs.Owes.{ReadOwes, AreSettingsOwes, NumbersInOwes, SettingsInOwes, PutOwes}

pub read_one : (log : List ℕ) {r t : Said} → ReadOwes log r → ReadOwes log t → r ≡ t
read_one log = one_answer

pub are_settings_one : (bs : List ℕ) {r t : Bool} → AreSettingsOwes bs r → AreSettingsOwes bs t → r ≡ t
are_settings_one bs = one_answer

pub numbers_in_one : (bs : List ℕ) {r t : Numbers} → NumbersInOwes bs r → NumbersInOwes bs t → r ≡ t
numbers_in_one bs = one_answer

pub settings_in_one : (bs : List ℕ) {r t : Settings} → SettingsInOwes bs r → SettingsInOwes bs t → r ≡ t
settings_in_one bs = one_answer

pub put_one : (n : Numbers) (s : Settings) (buf : List ℕ) {a b : List ℕ} → PutOwes n s buf a → PutOwes n s buf b → a ≡ b
put_one n s buf = one_answer
