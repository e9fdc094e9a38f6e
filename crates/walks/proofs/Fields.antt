-- The fields of a whole walk: as many as its answer hands out, and what a buffer then begins with.
use Prim.Native.Nat.{ℕ, ◌≤◌}
use mathlib.Core.Bool.{true}
use mathlib.Core.List.{List}
use mathlib.Core.Path.{◌≡◌}
use lib.ListN.{length, take}
use lib.Seq.{sets}
use Rattle.plan.specs.declared.Definition.{Definition}
use Rattle.plan.specs.Sound.{sound}
use Rattle.section.specs.declared.Walk.{Walk}
use Rattle.section.specs.Answers.{hands_out}
use Rattle.section.proofs.Fields.{begins_with}
use Rattle.calls.specs.Call.{called}
use Rattle.calls.proofs.Fields.{called_full}
use Rattle.walks.specs.declared.Goal.{Goal}
use Rattle.walks.specs.Walks.{after_calls, walked}
use Rattle.walks.proofs.Walks.{walk_first}

module _ (d : Definition) (h : sound d ≡ true) where
  pub walked_full : (goal : Goal) (s : List ℕ) (w : Walk) → length (walked goal d s w).fields ≡ hands_out d (walked goal d s w).answer
  walked_full goal s w = let f = walk_first goal d s w in rw f.is (called_full d h s (after_calls f.n d s w))

  pub buffer_begins : (s : List ℕ) (w : Walk) (buf : List ℕ) → hands_out d (called d s w).answer ≤ length buf
      → take (hands_out d (called d s w).answer) (sets buf 0 (called d s w).fields) ≡ (called d s w).fields
  buffer_begins s w buf = begins_with d (called d s w) buf (called_full d h s w)
