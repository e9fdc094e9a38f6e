-- `items::read_row` meets its contract: at each turn the codes are those of the items before the one at hand. Assumes nothing.
use mathlib.Core.Path.{◌≡◌}
use lib.ListN.{length}
use Rattle.items.proofs.Rows.{Filled}
use Rattle.items.proofs.read_row.Given as goal

abbrev pub invariant-loop-item : goal.invariant-loop-item
invariant-loop-item l = record { counted : l.count ≡ length l.yielded; filled : Filled l.of l.text l.codes l.count }
