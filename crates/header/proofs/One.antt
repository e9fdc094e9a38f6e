-- One input admits one answer: any two answers that a promise of this crate admits are equal.
use Prim.Native.Nat.{ℕ}
use mathlib.Core.List.{List}
use mathlib.Core.Path.{◌≡◌}
use Rattle.std.specs.Prelude.{Option}
use Rattle.items.specs.declared.Stretch.{Stretch}
use Rattle.plan.proofs.One.{one_answer}
use Rattle.header.specs.declared.Header.{Header}
use Rattle.header.specs.Owes.{ValueOwes, ReadOwes}

pub value_one : (text prefix : List ℕ) {r t : Option Stretch} → ValueOwes text prefix r → ValueOwes text prefix t → r ≡ t
value_one text prefix = one_answer

pub read_one : (text : List ℕ) {r t : Header} → ReadOwes text r → ReadOwes text t → r ≡ t
read_one text = one_answer
