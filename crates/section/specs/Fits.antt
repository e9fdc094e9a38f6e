-- What inner functions ask of a walk, a look and a lent buffer, so that every sum is a number of 64 bits and every value has its room.
-- No part of the meaning: whatever is admitted has it (proofs/Admitted.antt).
use Rattle.std.specs.Prelude.{ℕ, ◌+◌, ◌≤◌, get_or}
use Rattle.plan.specs.declared.Definition.{Definition}
use Rattle.plan.specs.Plan.{fields}
use Rattle.extent.specs.declared.Seen.{Seen}
use Rattle.extent.specs.Extent.{span}
use Rattle.section.specs.declared.Tally.{Tally}

-- a look that reaches over bytes of a section of z bytes alone
pub record Fits (t : Tally) (x : Seen) (z : ℕ) : Type 0 where
  pub few : t.trials ≤ t.place
  pub part : (i : ℕ) → get_or t.counts i 0 ≤ t.trials
  pub reaches : t.place + span x ≤ z

-- rooms for every field, and a buffer of so many places for them
pub record Rooms (d : Definition) (room : ℕ) : Type 0 where
  pub main : fields d.main ≤ 62
  pub slow : d.slow.n ≤ 16
  pub main_out : fields d.main ≤ room
  pub slow_out : d.slow.n ≤ room
