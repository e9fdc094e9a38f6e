-- Runs of a walk, look by look or call by call: what each step shows, and the state behind it.
use Rattle.std.specs.Prelude.{ℕ, suc, Bool, true, false, List}
use Rattle.section.specs.declared.Answer.{Answer}
use Rattle.section.specs.declared.Answer.TheVariants.{Passed, Rejected, Event, Intra, Inter, Slow, Over, Refused}
use Rattle.section.specs.declared.Walk.{Walk}
use Rattle.section.specs.Walk.{Outcome}
use Rattle.calls.specs.Call.{after}

-- What a step shows: its answer (kind and place; iteration and time; an event's numbers; the ending) and the fields handed out.
pub record Shown : Type 0 where
  pub answer : Answer
  pub fields : List ℕ

abbrev pub shown_by : Outcome → Shown
shown_by o = record { answer = o.answer; fields = o.fields }

module _ (step : Walk → Outcome) where
  -- what the n-th step shows, from 0, and the state behind it
  unfoldable pub shown : Walk → (n : ℕ) → Shown
  shown w n = shown_by (step (after step n w))

  abbrev pub behind : Walk → (n : ℕ) → Walk
  behind w n = after step (suc n) w

-- an accepted intra frame, an accepted inter frame
unfoldable pub is_intra : Answer → Bool
is_intra Passed = false
is_intra (Rejected k p) = false
is_intra (Event x) = false
is_intra (Intra x) = true
is_intra (Inter x) = false
is_intra (Slow x) = false
is_intra (Over e) = false
is_intra (Refused why) = false

unfoldable pub is_inter : Answer → Bool
is_inter Passed = false
is_inter (Rejected k p) = false
is_inter (Event x) = false
is_inter (Intra x) = false
is_inter (Inter x) = true
is_inter (Slow x) = false
is_inter (Over e) = false
is_inter (Refused why) = false
