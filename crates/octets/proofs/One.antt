-- One input admits one answer: any two answers that a promise of this crate admits are equal, and so are the buffers behind them.
use Prim.Native.Nat.{ℕ}
use mathlib.Core.List.{List}
use mathlib.Core.Path.{◌≡◌, sym, ◌∙◌}
use Rattle.octets.specs.Owes.{Put32Owes, Put64Owes, PutValuesOwes, PutLongsOwes, PutBytesOwes, Take32Owes, Take64Owes, TakeValuesOwes, TakeBytesOwes}

-- a promise is one equation to a definition
one_answer : {A : Type 0} {x r t : A} → r ≡ x → t ≡ x → r ≡ t
one_answer p q = p ∙ sym q

module _ (buf : List ℕ) (at : ℕ) where
  pub put32_one : (v : ℕ) {a b : List ℕ} → Put32Owes buf at v a → Put32Owes buf at v b → a ≡ b
  put32_one v = one_answer

  pub put64_one : (v : ℕ) {a b : List ℕ} → Put64Owes buf at v a → Put64Owes buf at v b → a ≡ b
  put64_one v = one_answer

  pub put_values_one : (values : List ℕ) {a b : List ℕ} → PutValuesOwes buf at values a → PutValuesOwes buf at values b → a ≡ b
  put_values_one values = one_answer

  pub put_longs_one : (numbers : List ℕ) {a b : List ℕ} → PutLongsOwes buf at numbers a → PutLongsOwes buf at numbers b → a ≡ b
  put_longs_one numbers = one_answer

  pub put_bytes_one : (bytes : List ℕ) {a b : List ℕ} → PutBytesOwes buf at bytes a → PutBytesOwes buf at bytes b → a ≡ b
  put_bytes_one bytes = one_answer

  pub take32_one : {r t : ℕ} → Take32Owes buf at r → Take32Owes buf at t → r ≡ t
  take32_one = one_answer

  pub take64_one : {r t : ℕ} → Take64Owes buf at r → Take64Owes buf at t → r ≡ t
  take64_one = one_answer

  pub take_values_one : (values : List ℕ) {a b : List ℕ} → TakeValuesOwes buf at values a → TakeValuesOwes buf at values b → a ≡ b
  take_values_one values = one_answer

  pub take_bytes_one : (bytes : List ℕ) {a b : List ℕ} → TakeBytesOwes buf at bytes a → TakeBytesOwes buf at bytes b → a ≡ b
  take_bytes_one bytes = one_answer
