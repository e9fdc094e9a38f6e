-- `section::Tally::after` meets its contract: each part of the tally, by what was seen.
-- Assumes a look that reaches over bytes of the section alone, no more trials than the place and no count over the trials, so that no sum wraps.
use Rattle.std.proofs.lemmas.Grind.{common_steps}
use native.Mathlib.Omega.{arith}
use Rattle.section.specs.Tally.{place_after, ending_after, counts_after, trials_after, tally_after}
use Rattle.section.proofs.Tally.after.Goals as goal

pub returns-in-Nothing : goal.returns-in-Nothing
unfolding tally_after place_after ending_after counts_after trials_after
returns-in-Nothing c = grind (arith, common_steps)

pub returns-in-Passed : goal.returns-in-Passed
unfolding tally_after place_after ending_after counts_after trials_after
returns-in-Passed c = grind (arith, common_steps)

pub returns-in-Rejected : goal.returns-in-Rejected
unfolding tally_after place_after ending_after counts_after trials_after
returns-in-Rejected c = grind (arith, common_steps)

pub returns-in-Cutoff : goal.returns-in-Cutoff
unfolding tally_after place_after ending_after counts_after trials_after
returns-in-Cutoff c = grind (arith, common_steps)

pub returns-in-Accepted : goal.returns-in-Accepted
unfolding tally_after place_after ending_after counts_after trials_after
returns-in-Accepted c = grind (arith, common_steps)
