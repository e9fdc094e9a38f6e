-- The name of a field (document 01, "Definition lists"): an item of the lent list that the sort says.
use Rattle.std.specs.Prelude.{ℕ, cond, List, Option, None, ltb}
use Rattle.items.specs.declared.Stretch.{Stretch}
use Rattle.items.specs.Items.{item_at, part}
use Rattle.plan.specs.declared.Definition.{Definition}
use Rattle.plan.specs.declared.Sort.{Sort}
use Rattle.plan.specs.declared.Sort.TheVariants as sort

-- n, the items of the definition's lists of a sort
abbrev pub item_count : Definition → Sort → ℕ
item_count d sort.Main = d.main.n
item_count d sort.Slow = d.slow.n

-- the right one of two lists of names
abbrev pub chosen : Sort → (main slow : List ℕ) → List ℕ
chosen sort.Main main slow = main
chosen sort.Slow main slow = slow

-- where the name of field k stands in it: none where k is not below n, or where the list has no such item
unfoldable pub name_at : Definition → Sort → (main slow : List ℕ) → ℕ → Option Stretch
name_at d which main slow k = cond (ltb k (item_count d which)) (item_at (chosen which main slow) k) None

-- the bytes that stand there
unfoldable pub name_of : Definition → Sort → (main slow : List ℕ) → ℕ → List ℕ
name_of d which main slow k = part (chosen which main slow) (name_at d which main slow k)
