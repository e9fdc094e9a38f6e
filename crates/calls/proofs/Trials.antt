-- The trials that a call reports: no more than the section's bytes, and the sum of their parts in the walk behind it, unless it refuses.
use Prim.Native.Nat.{ℕ, ◌≤◌}
use mathlib.Core.Bool.{true, false}
use mathlib.Core.List.{List}
use mathlib.Core.Path.{◌≡◌}
use lib.ListN.{length}
use Rattle.plan.specs.declared.Definition.{Definition}
use Rattle.section.specs.declared.Looked.{Looked}
use Rattle.section.specs.declared.Walk.{Walk}
use Rattle.section.specs.Refusals.{pass, admitted, checked, parts_of}
use Rattle.section.proofs.Admitted.{checked_pass}
use Rattle.section.proofs.Trials.{is_refused, first_trials, first_parts}
use Rattle.calls.specs.Call.{called}
use Rattle.calls.specs.Owes.{CallOwes}
use Rattle.calls.proofs.Calls.{called_admitted}

module _ (d : Definition) (w : Walk) (s out : List ℕ) (r : Looked) {after : List ℕ}
    (owes : CallOwes d w s out r after) (four : length w.tally.counts ≡ 4) where
  stays : checked d w (length s) (length out) ≡ pass → admitted d (length s) (called d s w).walk ≡ true
  stays e = called_admitted d s w (checked_pass d w (length s) (length out) e).0 four

  pub call_trials : r.trials ≤ length s
  call_trials = first_trials d (length s) (called d s w) w out r (checked d w (length s) (length out)) stays owes

  pub call_parts : is_refused r.answer ≡ false → r.trials ≡ parts_of r.walk.tally
  call_parts = first_parts d (length s) (called d s w) w out r (checked d w (length s) (length out)) stays owes
