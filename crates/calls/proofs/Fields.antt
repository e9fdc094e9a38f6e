-- What holds behind every look holds behind every call: so a call, too, hands out as many fields as its answer says.
use Prim.Native.Nat.{ℕ}
use mathlib.Core.Bool.{true}
use mathlib.Core.List.{List}
use mathlib.Core.Path.{◌≡◌}
use lib.ListN.{length}
use Rattle.plan.specs.declared.Definition.{Definition}
use Rattle.plan.specs.Sound.{sound}
use Rattle.section.specs.declared.Walk.{Walk}
use Rattle.section.specs.Walk.{Outcome, tick}
use Rattle.section.proofs.Fields.{Full, tick_full}
use Rattle.calls.specs.Call.{is_said, called}
use Rattle.calls.proofs.Ticks.{tick_moves, tick_end}
use Rattle.calls.proofs.Until.{until_by}

pub called_by : (d : Definition) (s : List ℕ) (Q : Outcome → Type 0) → ((w : Walk) → Q (tick d s w)) → (w : Walk) → Q (called d s w)
unfolding called
called_by d s Q each w =
    until_by (tick d s) is_said (length s) (tick_moves d s) (tick_end d s) (λ _. Unit) Q (λ v p e. tt) (λ v p e. each v) w tt

pub called_full : (d : Definition) → sound d ≡ true → (s : List ℕ) (w : Walk) → Full d (called d s w)
called_full d h s = called_by d s (Full d) (tick_full d h s)
