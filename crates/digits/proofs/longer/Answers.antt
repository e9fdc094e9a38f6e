-- `digits::longer` meets its contract: each test that fails is one of the definition's. Assumes nothing.
use Prim.Native.Nat.{◌-◌}
use mathlib.Core.Path.{◌≡◌, ◌∙◌}
use native.Mathlib.Omega.{arith}
use Rattle.digits.proofs.Digits.{too_low, too_high, ten_too_long, with_digit}
use Rattle.digits.proofs.longer.Goals as goal

pub returns-in_err-digit : goal.returns-in_err-digit
returns-in_err-digit c = c.from_residual.ensures ∙ too_low _ _ (omega (arith, c.in_err-digit.ensures))

pub returns-then-digit-gt9 : goal.returns-then-digit-gt9
returns-then-digit-gt9 c = too_high _ _ (omega (arith, c.in_ok-digit.ensures))

pub returns-in_err-checked_mul : goal.returns-in_err-checked_mul
returns-in_err-checked_mul c = c.from_residual-in_err-checked_mul.ensures ∙ ten_too_long _ _ c.in_err-checked_mul.ensures

pub returns : goal.returns
returns c =
    let digit : c.in_ok-digit.digit ≡ c.args.b - 48 = c.in_ok-digit.ensures.1 in
    with_digit _ _ _ (rw digit at c.checked_add.ensures) c.in_ok-checked_mul.ensures.1 (omega (arith, c.in_ok-digit.ensures))
