-- One input admits one answer: any two answers that a promise of this crate admits are equal, and so is the content of all that was lent.
use Prim.Native.Nat.{ℕ}
use mathlib.Core.List.{List, []}
use mathlib.Core.Path.{◌≡◌, ap}
use Rattle.reader.proofs.One.{one_answer}
use Rattle.dulimasca.specs.Calls.{RowsReply}
use Rattle.dulimasca.specs.Owes.{SettingsOwes, DefineOwes, StartOwes, CountOwes, FillOwes, RowsOwes, NameOwes}
use Rattle.dulimasca.specs.Told.{Reply, reply}

-- equal replies have equal parts
same_reply : {r t : ℕ} {a b x y : List ℕ} → reply r a x ≡ reply t b y → (r ≡ t) × (a ≡ b) × (x ≡ y)
same_reply e = (ap (λ (z : Reply). z.answer) e, ap (λ (z : Reply). z.lent) e, ap (λ (z : Reply). z.told) e)

module _ (r t : ℕ) (x y : List ℕ) where
  pub settings_one : (log buf : List ℕ) → SettingsOwes log buf r x → SettingsOwes log buf t y → (r ≡ t) × (x ≡ y)
  settings_one log buf p q = let e = same_reply {x = []} {y = []} (one_answer p q) in (e.0, e.1)

  pub count_one : (def s told : List ℕ) → CountOwes def s told r x → CountOwes def s told t y → (r ≡ t) × (x ≡ y)
  count_one def s told p q = let e = same_reply {a = []} {b = []} (one_answer p q) in (e.0, e.2)

  pub name_one : (def : List ℕ) (kind : ℕ) (main slow : List ℕ) (k : ℕ) (told : List ℕ)
      → NameOwes def kind main slow k told r x → NameOwes def kind main slow k told t y → (r ≡ t) × (x ≡ y)
  name_one def kind main slow k told p q = let e = same_reply {a = []} {b = []} (one_answer p q) in (e.0, e.2)

  module _ (a b : List ℕ) where
    pub define_one : (log chosen buf told : List ℕ) → DefineOwes log chosen buf told r a x → DefineOwes log chosen buf told t b y → (r ≡ t) × (a ≡ b) × (x ≡ y)
    define_one log chosen buf told p q = same_reply (one_answer p q)

    pub start_one : (st told : List ℕ) → StartOwes st told r a x → StartOwes st told t b y → (r ≡ t) × (a ≡ b) × (x ≡ y)
    start_one st told p q = same_reply (one_answer p q)

    pub fill_one : (def s : List ℕ) (kind k : ℕ) (out told : List ℕ) → FillOwes def s kind k out told r a x → FillOwes def s kind k out told t b y →
        (r ≡ t) × (a ≡ b) × (x ≡ y)
    fill_one def s kind k out told p q = same_reply (one_answer p q)

    pub rows_one : (c d : List ℕ) (def st s out told : List ℕ) → RowsOwes def st s out told r c a x → RowsOwes def st s out told t d b y →
        (r ≡ t) × (c ≡ d) × (a ≡ b) × (x ≡ y)
    rows_one c d def st s out told p q =
        let e = one_answer p q in
        (ap (λ (z : RowsReply). z.answer) e, ap (λ (z : RowsReply). z.state) e, ap (λ (z : RowsReply). z.out) e, ap (λ (z : RowsReply). z.told) e)
