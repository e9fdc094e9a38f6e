-- What an answer says in document 01's numbers, and what a call leaves behind: the state handed back and the lent buffer's content.
use Rattle.std.specs.Prelude.{ℕ, Bool, true, false, cond, List, [], ◌∷◌, ◌≡◌, leb, Option, None, Some, Ok, Err}
use Rattle.std.proofs.lemmas.List.Edits.{sets}
use Rattle.plan.specs.declared.Definition.{Definition}
use Rattle.plan.specs.Plan.{fields}
use Rattle.reader.specs.Search.{byte_of}
use Rattle.section.specs.declared.Answer.{Answer}
use Rattle.section.specs.declared.Answer.TheVariants.{Passed, Rejected, Event, Intra, Inter, Slow, Over, Refused}
use Rattle.section.specs.declared.Ending.TheVariants.{Going, Done, Out, Cut}
use Rattle.section.specs.declared.Looked.{Looked}
use Rattle.section.specs.declared.MainAnswer.{MainAnswer}
use Rattle.section.specs.declared.Refusal.{Refusal}
use Rattle.section.specs.declared.Refusal.TheVariants.{Unsound, TooShort}
use Rattle.section.specs.declared.Walk.{Walk}
use Rattle.section.specs.Refusals.{Check, admitted}
use Rattle.section.specs.Walk.{Outcome}

-- a number and values
pub record Paper : Type 0 where
  pub number : ℕ
  pub values : List ℕ

abbrev paper : ℕ → List ℕ → Paper
paper n vs = record { number = n; values = vs }

abbrev pub refusal : (number place : ℕ) → Paper
refusal number place = paper number (place ∷ [])

abbrev numbers_of : MainAnswer → List ℕ
numbers_of x = x.at ∷ x.iteration ∷ x.time ∷ []

-- An accepted frame: its letter's byte, then its place with iteration and time, or with the event's type and both its numbers; fields travel in the buffer.
-- A refusal: its number and place. Endings and looks in vain have no number in document 01: 1 out of data, 2 cut, 3 done, 0 a look in vain,
-- with the letter's byte and the place of the trial that was cut or rejected. 4 stands for no ending: no look and no call answers it.
unfoldable pub paper_of : Answer → Paper
paper_of (Event x) = paper 69 (x.at ∷ x.event.code ∷ x.event.first ∷ x.event.second ∷ [])
paper_of (Intra x) = paper 73 (numbers_of x)
paper_of (Inter x) = paper 80 (numbers_of x)
paper_of (Slow x) = paper 83 (x.at ∷ [])
paper_of (Refused Unsound) = refusal 10 0
paper_of (Refused (TooShort n)) = refusal 11 n
paper_of (Over Out) = paper 1 []
paper_of (Over (Cut k p)) = paper 2 (byte_of k ∷ p ∷ [])
paper_of (Over Done) = paper 3 []
paper_of (Over Going) = paper 4 []
paper_of Passed = paper 0 []
paper_of (Rejected k p) = paper 0 (byte_of k ∷ p ∷ [])

-- what a check finds: no refusal, or the number and place of one
abbrev pub Finding : Type 0
Finding = Option Paper

unfoldable pub found : Check → Finding
found (Ok u) = None
found (Err why) = Some (paper_of (Refused why))

-- 10 at 0, and behind it 11 with the needed length, for a buffer that has to have so many places
unfoldable pub refusal_for : (least : ℕ) → Definition → Walk → (length room : ℕ) → Finding
refusal_for least d w z room = cond (admitted d z w) (cond (leb least room) None (Some (refusal 11 least))) (Some (refusal 10 0))

-- done, out of data, cut and refusals are no frames, and the same call again gives none
unfoldable pub is_over : Answer → Bool
is_over Passed = false
is_over (Rejected k p) = false
is_over (Event x) = false
is_over (Intra x) = false
is_over (Inter x) = false
is_over (Slow x) = false
is_over (Over e) = true
is_over (Refused why) = true

-- how many fields an answer hands out
unfoldable pub hands_out : Definition → Answer → ℕ
hands_out d Passed = 0
hands_out d (Rejected k p) = 0
hands_out d (Event x) = 0
hands_out d (Intra x) = fields d.main
hands_out d (Inter x) = fields d.main
hands_out d (Slow x) = d.slow.n
hands_out d (Over e) = 0
hands_out d (Refused why) = 0

-- all that a call gives: what it says, the trials so far, the walk, and the lent buffer's content
pub record Told : Type 0 where
  pub said : Paper
  pub trials : ℕ
  pub walk : Walk
  pub out : List ℕ

abbrev pub told : Looked → (out : List ℕ) → Told
told r out = record { said = paper_of r.answer; trials = r.trials; walk = r.walk; out = out }

-- the buffer's first places hold the fields, if any; the rest keep their content
unfoldable pub handed : Outcome → (out : List ℕ) → Told
handed o out = record { said = paper_of o.answer; trials = o.walk.tally.trials; walk = o.walk; out = sets out 0 o.fields }

-- an outcome without fields, whatever the buffer holds
abbrev pub Tells : Looked → Outcome → Type 0
Tells r o = (out : List ℕ) → told r out ≡ handed o out

-- a refusal hands back the state that it was given and writes nothing; it reports no trials
unfoldable pub refusing : Refusal → Walk → (out : List ℕ) → Told
refusing why w out = record { said = paper_of (Refused why); trials = 0; walk = w; out = out }

-- an outcome, unless the check refuses it
unfoldable pub checked_first : Check → Outcome → Walk → (out : List ℕ) → Told
checked_first (Ok u) o w out = handed o out
checked_first (Err why) o w out = refusing why w out
