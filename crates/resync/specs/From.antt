-- What two steps have in common that are read from two places: all but the place that they count from.
use Rattle.std.specs.Prelude.{Option, None, Some, ℕ, ◌+◌, List, [], ◌≡◌, take, drop}
use Rattle.section.specs.declared.Answer.{Answer}
use Rattle.section.specs.declared.Answer.TheVariants.{Passed, Rejected, Event, Intra, Inter, Slow, Over, Refused}
use Rattle.section.specs.declared.Ending.{Ending}
use Rattle.section.specs.declared.Ending.TheVariants.{Going, Done, Out, Cut}
use Rattle.section.specs.declared.MainAnswer.{MainAnswer}
use Rattle.resync.specs.Runs.{Shown}

-- ## The same, n bytes further on

unfoldable pub ending_from : (n : ℕ) → Ending → Ending
ending_from n Going = Going
ending_from n Done = Done
ending_from n Out = Out
ending_from n (Cut k p) = Cut k (n + p)

abbrev pub main_from : (n : ℕ) → MainAnswer → MainAnswer
main_from n x = record { at = n + x.at; iteration = x.iteration; time = x.time }

unfoldable pub answer_from : (n : ℕ) → Answer → Answer
answer_from n Passed = Passed
answer_from n (Rejected k p) = Rejected k (n + p)
answer_from n (Event x) = Event (record { at = n + x.at; event = x.event })
answer_from n (Intra x) = Intra (main_from n x)
answer_from n (Inter x) = Inter (main_from n x)
answer_from n (Slow x) = Slow (record { at = n + x.at })
answer_from n (Over e) = Over (ending_from n e)
answer_from n (Refused why) = Refused why

-- nothing but places is moved: iteration, time, every field and an event's numbers stay
abbrev pub from : (n : ℕ) → Shown → Shown
from n x = record { answer = answer_from n x.answer; fields = x.fields }

-- ## One and the same, read from b here and from b' there

abbrev pub Same : (b b' : ℕ) → Shown → Shown → Type 0
Same b b' e e' = (x : Shown) × (e ≡ from b x) × (e' ≡ from b' x)

abbrev pub SameEnding : (b b' : ℕ) → Ending → Ending → Type 0
SameEnding b b' e e' = (x : Ending) × (e ≡ ending_from b x) × (e' ≡ ending_from b' x)

-- x is as far above a as x' is above a'
abbrev pub AsMuch : (a x a' x' : ℕ) → Type 0
AsMuch a x a' x' = (n : ℕ) × (x ≡ a + n) × (x' ≡ a' + n)

-- ## What the frames before have no part in

-- An intra frame without its fields, an inter frame without iteration, time and fields.
-- All else stays: kinds and places, an intra frame's own iteration and time, events, slow frames with their fields, rejected trials, the ending.
unfoldable pub outline_of : Answer → (fields : List ℕ) → Shown
outline_of Passed vs = record { answer = Passed; fields = vs }
outline_of (Rejected k p) vs = record { answer = Rejected k p; fields = vs }
outline_of (Event x) vs = record { answer = Event x; fields = vs }
outline_of (Intra x) vs = record { answer = Intra x; fields = [] }
outline_of (Inter x) vs = record { answer = Inter (record { at = x.at; iteration = 0; time = 0 }); fields = [] }
outline_of (Slow x) vs = record { answer = Slow x; fields = vs }
outline_of (Over e) vs = record { answer = Over e; fields = vs }
outline_of (Refused why) vs = record { answer = Refused why; fields = vs }

abbrev pub outline : Shown → Shown
outline x = outline_of x.answer x.fields

-- where the kind byte of an accepted frame stands
unfoldable pub frame_at : Answer → Option ℕ
frame_at Passed = None
frame_at (Rejected k p) = None
frame_at (Event x) = Some x.at
frame_at (Intra x) = Some x.at
frame_at (Inter x) = Some x.at
frame_at (Slow x) = Some x.at
frame_at (Over e) = None
frame_at (Refused why) = None

-- where a walk was cut
abbrev pub cut_at : Ending → Option ℕ
cut_at Going = None
cut_at Done = None
cut_at Out = None
cut_at (Cut k p) = Some p

-- where a trial that a look shows was made: accepted, rejected or cut
unfoldable pub tried_at : Answer → Option ℕ
tried_at Passed = None
tried_at (Rejected k p) = Some p
tried_at (Event x) = Some x.at
tried_at (Intra x) = Some x.at
tried_at (Inter x) = Some x.at
tried_at (Slow x) = Some x.at
tried_at (Over e) = cut_at e
tried_at (Refused why) = None

-- the bytes of an accepted frame: from its kind byte to the place behind it
abbrev pub stretch : (section : List ℕ) → (behind : ℕ) → Option ℕ → List ℕ
stretch s p None = []
stretch s p (Some q) = drop q (take p s)

abbrev pub bytes_of : (section : List ℕ) → Answer → (behind : ℕ) → List ℕ
bytes_of s a p = stretch s p (frame_at a)
