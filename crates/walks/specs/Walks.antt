-- A whole walk: calls until one is over; the frames that it counts; the k-th frame of a sort (document 01, "Module order", the database host).
use Rattle.std.specs.Prelude.{ℕ, Bool, false, cond, ◌||◌, List, [], ltb, length, get_or, Err}
use Rattle.plan.specs.declared.Definition.{Definition}
use Rattle.section.specs.declared.Refusal.TheVariants.{Unsound}
use Rattle.section.specs.declared.Tally.{Tally}
use Rattle.section.specs.declared.Walk.{Walk}
use Rattle.section.specs.Answers.{Paper, Told, checked_first, is_over}
use Rattle.section.specs.Refusals.{Check, pass, admitted, checked}
use Rattle.section.specs.Walk.{Outcome, start}
use Rattle.calls.specs.Call.{after, until, left, called}
use Rattle.plan.specs.declared.Sort.{Sort}
use Rattle.plan.specs.declared.Sort.TheVariants as sort
use Rattle.walks.specs.declared.Goal.{Goal}
use Rattle.walks.specs.declared.Goal.TheVariants.{End, Frame}

-- where the accepted frames of a sort are counted
unfoldable pub counted_at : Sort → ℕ
counted_at sort.Main = 0
counted_at sort.Slow = 2

-- whether a walk has come to its goal: the k-th frame of a sort, from 0, is there once more than k are counted
unfoldable pub is_reached : Goal → Tally → Bool
is_reached End t = false
is_reached (Frame of k) t = ltb k (get_or t.counts (counted_at of) 0)

unfoldable pub is_last : Goal → Outcome → Bool
is_last goal o = is_over o.answer || is_reached goal o.walk.tally

-- the walk behind n calls
abbrev pub after_calls : (n : ℕ) → Definition → List ℕ → Walk → Walk
after_calls n d s w = after (called d s) n w

-- CALLS UNTIL ONE IS OVER, or a goal is reached: every call that accepts a frame goes on by a byte or more
unfoldable pub walked : Goal → Definition → List ℕ → Walk → Outcome
walked goal d s w = until (called d s) (is_last goal) (left s w) w

-- refusal 10 alone: a whole walk hands out no fields, so it needs no buffer
unfoldable pub checked_state : Definition → (length : ℕ) → Walk → Check
checked_state d z w = cond (admitted d z w) pass (Err Unsound)

-- a whole walk from a state; there is no buffer
unfoldable pub through_of : Definition → List ℕ → Walk → Told
through_of d s w = checked_first (checked_state d (length s) w) (walked End d s w) w []

-- the counts of a section: those of a whole walk from its start
pub record Counts : Type 0 where
  pub said : Paper
  pub tally : Tally

abbrev pub counts_of : Told → Counts
counts_of r = record { said = r.said; tally = r.walk.tally }

-- the k-th accepted main or slow frame, from 0: its answer and its fields, or how the walk ended before it
unfoldable pub filled_of : Sort → (k : ℕ) → Definition → List ℕ → (out : List ℕ) → Told
filled_of of k d s out = checked_first (checked d start (length s) (length out)) (walked (Frame of k) d s start) start out
