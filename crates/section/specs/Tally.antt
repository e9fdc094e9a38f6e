-- What a look does to a walk's tally: the place, the ending and the counts (document 01, "The walk").
-- No predictor, no header number and no history has a part in it.
use Rattle.std.specs.Prelude.{ℕ, ◌+◌, cond, List, eqb, get_or, set, unwrap_or}
use Rattle.extent.specs.declared.Found.{Found}
use Rattle.extent.specs.declared.Found.TheVariants.{Event, Intra, Inter, Slow}
use Rattle.extent.specs.declared.Seen.{Seen}
use Rattle.extent.specs.declared.Seen.TheVariants.{Nothing, Passed, Rejected, Cutoff, Accepted}
use Rattle.section.specs.declared.Ending.{Ending}
use Rattle.section.specs.declared.Ending.TheVariants.{Going, Done, Out, Cut}
use Rattle.section.specs.declared.Tally.{Tally}

-- The walk's place. `length` is the section's.
-- A search starts behind the first byte, and stays there if it finds nothing; a cut moves to the section's end; an accepted frame is left behind.
unfoldable pub place_after : Seen → (length place : ℕ) → ℕ
place_after Nothing z p = p
place_after (Passed n) z p = p + 1 + unwrap_or n 0
place_after (Rejected k n) z p = p + 1 + unwrap_or n 0
place_after (Cutoff k) z p = z
place_after (Accepted f m) z p = p + 1 + m

-- an accepted type 255 is done
unfoldable pub ended_by : Found → Ending
ended_by (Event e) = cond (eqb e.code 255) Done Going
ended_by Intra = Going
ended_by Inter = Going
ended_by Slow = Going

-- no byte left is out of data; a cut names its kind byte's place
unfoldable pub ending_after : Seen → (place : ℕ) → Ending
ending_after Nothing p = Out
ending_after (Passed s) p = Going
ending_after (Rejected k s) p = Going
ending_after (Cutoff k) p = Cut k p
ending_after (Accepted f m) p = ended_by f

-- the counts: 0 main, 1 event, 2 slow, 3 rejected
abbrev pub rejections : ℕ
rejections = 3

unfoldable pub part_of : Found → ℕ
part_of (Event e) = 1
part_of Intra = 0
part_of Inter = 0
part_of Slow = 2

unfoldable pub one_more : List ℕ → ℕ → List ℕ
one_more counts i = set counts i (get_or counts i 0 + 1)

unfoldable pub counts_after : Seen → List ℕ → List ℕ
counts_after Nothing c = c
counts_after (Passed s) c = c
counts_after (Rejected k s) c = one_more c rejections
counts_after (Cutoff k) c = c
counts_after (Accepted f m) c = one_more c (part_of f)

-- every trial counts: accepted, rejected and a final cut
unfoldable pub trials_after : Seen → ℕ → ℕ
trials_after Nothing t = t
trials_after (Passed s) t = t
trials_after (Rejected k s) t = t + 1
trials_after (Cutoff k) t = t + 1
trials_after (Accepted f m) t = t + 1

unfoldable pub tally_after : Seen → (length : ℕ) → Tally → Tally
tally_after x z t =
    record {
      place = place_after x z t.place;
      ending = ending_after x t.place;
      counts = counts_after x t.counts;
      trials = trials_after x t.trials;
    }
