-- The name of field k is item k of the list of its sort, and there is none from n on.
use Prim.Native.Nat.{ℕ, ◌<◌, ◌≤◌}
use mathlib.Core.List.{List}
use mathlib.Core.Path.{◌≡◌, sym, ap, ap₂, ◌∙◌}
use native.Mathlib.Decide.{dec_lt}
use native.Mathlib.Omega.{arith}
use lib.ListN.{length}
use borrow.Author.Tests.{lt-ltb, le-ltb}
use Rattle.std.specs.Prelude.{Option, Some, None}
use Rattle.items.specs.declared.Stretch.{Stretch}
use Rattle.items.specs.Items.{items, at, item_at, part}
use Rattle.items.proofs.Items.{item_within, item_part}
use Rattle.plan.specs.declared.Definition.{Definition}
use Rattle.plan.specs.declared.Sort.{Sort}
use Rattle.names.specs.Names.{item_count, chosen, name_at, name_of}

module _ (d : Definition) (which : Sort) (main slow : List ℕ) (k : ℕ) where
  -- below n it stands where item k does
  stands : k < item_count d which → name_at d which main slow k ≡ item_at (chosen which main slow) k
  unfolding name_at
  stands h = rw (lt-ltb k (item_count d which) h)

  pub unnamed : item_count d which ≤ k → name_at d which main slow k ≡ None
  unfolding name_at
  unnamed h = rw (le-ltb k (item_count d which) h)

  -- its bytes
  pub named : k < item_count d which → name_of d which main slow k ≡ at (items (chosen which main slow)) k
  unfolding name_of
  named h = ap (part (chosen which main slow)) (stands h) ∙ item_part (chosen which main slow) k

  -- where it stands is in the list
  pub name_within : (s : Stretch) → name_at d which main slow k ≡ Some s → (s.start ≤ s.end) × (s.end ≤ length (chosen which main slow))
  name_within s is = by (dec_lt k (item_count d which))
    where
      by : Dec (k < item_count d which) → (s.start ≤ s.end) × (s.end ≤ length (chosen which main slow))
      by (yes h) = item_within (chosen which main slow) k s (sym (stands h) ∙ is)
      by (no h) = cc (unnamed (omega arith))

-- ## The answers of the code

pub name_here : (d : Definition) (which : Sort) (main slow : List ℕ) (k : ℕ) {n : ℕ} {l : List ℕ} {r : Option Stretch}
    → n ≡ item_count d which → l ≡ chosen which main slow → r ≡ item_at l k → k < n → r ≡ name_at d which main slow k
name_here d which main slow k e f g h = g ∙ ap (λ t. item_at t k) f ∙ sym (stands d which main slow k (omega arith))

pub no_name : (d : Definition) (which : Sort) (main slow : List ℕ) (k : ℕ) {n : ℕ} → n ≡ item_count d which → n ≤ k → None ≡ name_at d which main slow k
no_name d which main slow k e h = sym (unnamed d which main slow k (omega arith))

pub field_named : (d : Definition) (which : Sort) (main slow : List ℕ) (k : ℕ) {l t : List ℕ} {r : Option Stretch} → l ≡ chosen which main slow
    → r ≡ name_at d which main slow k → t ≡ part l r → t ≡ name_of d which main slow k
unfolding name_of
field_named d which main slow k e f g = g ∙ ap₂ part e f
