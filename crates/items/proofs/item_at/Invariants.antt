-- `items::item_at` meets its contract: at each turn `start` is where the next item starts. Assumes nothing.
use Prim.Native.Nat.{◌≤◌}
use mathlib.Core.Path.{◌≡◌}
use lib.ListN.{length}
use Rattle.items.specs.Items.{items, start_of}
use Rattle.items.proofs.item_at.Given as goal

abbrev pub invariant-loop-j : goal.invariant-loop-j
invariant-loop-j l = record { from : l.start ≡ start_of (items l.text) (length l.yielded); before_k : length l.yielded ≤ l.k }
