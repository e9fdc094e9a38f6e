-- One of four, by a number.
use Prim.Native.Nat.{ℕ, zero, suc}
use Rattle.tagged.specs.Choose.{choose}

-- what holds of all four holds of the chosen one
pub by_choice : {A : Type 0} (P : A → Type 0) (n : ℕ) {a b c d : A} → P a → P b → P c → P d → P (choose n a b c d)
by_choice P zero p q r s = p
by_choice P (suc zero) p q r s = q
by_choice P (suc (suc zero)) p q r s = r
by_choice P (suc (suc (suc n))) p q r s = s
