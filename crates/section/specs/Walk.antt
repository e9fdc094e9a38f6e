-- One look: what it answers, the fields that it hands out, and the walk behind it (document 01, "The walk").
use Rattle.std.specs.Prelude.{ℕ, List, [], length, drop, take, replicate}
use Rattle.plan.specs.declared.Definition.{Definition}
use Rattle.plan.specs.Plan.{fields, shape, rules}
use Rattle.raws.specs.declared.Raw.{Raw}
use Rattle.frame.specs.declared.MainFrame.{MainFrame}
use Rattle.frame.specs.Frames.{intra_frame, inter_frame, slow_values}
use Rattle.history.specs.declared.History.{History}
use Rattle.history.specs.History.{empty, pushed, past}
use Rattle.extent.specs.declared.Found.{Found}
use Rattle.extent.specs.declared.Found.TheVariants.{Event, Intra, Inter, Slow}
use Rattle.extent.specs.declared.Look.{Look}
use Rattle.extent.specs.declared.Seen.{Seen}
use Rattle.extent.specs.declared.Seen.TheVariants.{Nothing, Passed, Rejected, Cutoff, Accepted}
use Rattle.extent.specs.Extent.{look}
use Rattle.section.specs.declared.Answer.{Answer}
use Rattle.section.specs.declared.Answer.TheVariants as answer
use Rattle.section.specs.declared.Ending.{Ending}
use Rattle.section.specs.declared.Ending.TheVariants.{Going, Done, Out, Cut}
use Rattle.section.specs.declared.MainAnswer.{MainAnswer}
use Rattle.section.specs.declared.Tally.{Tally}
use Rattle.section.specs.declared.Walk.{Walk}
use Rattle.section.specs.Tally.{tally_after}

-- before a section's first look
unfoldable pub start : Walk
start = record { tally = record { place = 0; ending = Going; counts = replicate 4 0; trials = 0 }; history = empty }

-- ## An accepted frame

-- the main frames that raw numbers make, behind the frames before them
abbrev pub intra_of : Definition → Raw → History → MainFrame
intra_of d x h = intra_frame (shape d) (rules d) (past h) x

abbrev pub inter_of : Definition → Raw → History → MainFrame
inter_of d x h = inter_frame (shape d) (rules d) (past h) x

-- an accepted main frame becomes last, and last becomes older; no other frame changes the history
unfoldable pub history_with : Definition → Found → Raw → History → History
history_with d (Event e) x h = h
history_with d Intra x h = pushed h (intra_of d x h)
history_with d Inter x h = pushed h (inter_of d x h)
history_with d Slow x h = h

abbrev pub main_answer : (place : ℕ) → MainFrame → MainAnswer
main_answer p f = record { at = p; iteration = f.iteration; time = f.time }

-- the place of the kind byte with iteration and time, or with the event's type and numbers
unfoldable pub answer_with : Definition → Found → (place : ℕ) → Raw → History → Answer
answer_with d (Event e) p x h = answer.Event (record { at = p; event = e })
answer_with d Intra p x h = answer.Intra (main_answer p (intra_of d x h))
answer_with d Inter p x h = answer.Inter (main_answer p (inter_of d x h))
answer_with d Slow p x h = answer.Slow (record { at = p })

-- the fields of a main or slow frame; an event hands none out
unfoldable pub fields_with : Definition → Found → Raw → History → List ℕ
fields_with d (Event e) x h = []
fields_with d Intra x h = take (fields d.main) (intra_of d x h).values
fields_with d Inter x h = take (fields d.main) (inter_of d x h).values
fields_with d Slow x h = take d.slow.n (slow_values (shape d) (rules d) x)

-- ## A look

-- rejection changes no history
unfoldable pub history_after : Definition → Seen → Raw → History → History
history_after d Nothing x h = h
history_after d (Passed s) x h = h
history_after d (Rejected k s) x h = h
history_after d (Cutoff k) x h = h
history_after d (Accepted f m) x h = history_with d f x h

unfoldable pub answer_after : Definition → Seen → (place : ℕ) → Raw → History → Answer
answer_after d Nothing p x h = answer.Over Out
answer_after d (Passed s) p x h = answer.Passed
answer_after d (Rejected k s) p x h = answer.Rejected k p
answer_after d (Cutoff k) p x h = answer.Over (Cut k p)
answer_after d (Accepted f m) p x h = answer_with d f p x h

unfoldable pub fields_after : Definition → Seen → Raw → History → List ℕ
fields_after d Nothing x h = []
fields_after d (Passed s) x h = []
fields_after d (Rejected k s) x h = []
fields_after d (Cutoff k) x h = []
fields_after d (Accepted f m) x h = fields_with d f x h

-- what comes of a look: the answer, the fields, and the walk behind it
pub record Outcome : Type 0 where
  pub answer : Answer
  pub fields : List ℕ
  pub walk : Walk

abbrev pub outcome : Answer → (fields : List ℕ) → Tally → History → Outcome
outcome a vs t h = record { answer = a; fields = vs; walk = record { tally = t; history = h } }

-- what a look does to a walk over a section of so many bytes
unfoldable pub settled : Definition → Look → (length : ℕ) → Walk → Outcome
settled d l z w =
    outcome (answer_after d l.seen w.tally.place l.raw w.history) (fields_after d l.seen l.raw w.history)
    (tally_after l.seen z w.tally) (history_after d l.seen l.raw w.history)

-- a walk that has ended stays as it is
unfoldable pub over : Walk → Outcome
over w = record { answer = answer.Over w.tally.ending; fields = []; walk = w }

abbrev pub if_going : {A : Type 0} → Ending → A → A → A
if_going Going a b = a
if_going Done a b = b
if_going Out a b = b
if_going (Cut k p) a b = b

-- ONE LOOK: done, out of data and cut last
unfoldable pub tick : Definition → List ℕ → Walk → Outcome
tick d s w = if_going w.tally.ending (settled d (look (shape d) (drop w.tally.place s)) (length s) w) (over w)
