-- One call: it looks until a look has something to say (document 01, "The walk"; that a call goes on behind what is in vain is our reading).
use Rattle.std.specs.Prelude.{ℕ, zero, suc, ◌-◌, Bool, true, false, cond, List, length}
use Rattle.plan.specs.declared.Definition.{Definition}
use Rattle.section.specs.declared.Answer.{Answer}
use Rattle.section.specs.declared.Answer.TheVariants.{Passed, Rejected, Event, Intra, Inter, Slow, Over, Refused}
use Rattle.section.specs.declared.Walk.{Walk}
use Rattle.section.specs.Walk.{Outcome, tick}

-- the walk behind n steps
unfoldable pub after : (step : Walk → Outcome) → (n : ℕ) → Walk → Walk
after step zero w = w
after step (suc n) w = after step n (step w).walk

-- steps until one is the last, and at most n steps behind the first
unfoldable pub until : (step : Walk → Outcome) → (last : Outcome → Bool) → (n : ℕ) → Walk → Outcome
until step last zero w = step w
until step last (suc n) w = cond (last (step w)) (step w) (until step last n (step w).walk)

-- a passed byte and a rejected trial say nothing
unfoldable pub says : Answer → Bool
says Passed = false
says (Rejected k p) = false
says (Event x) = true
says (Intra x) = true
says (Inter x) = true
says (Slow x) = true
says (Over e) = true
says (Refused why) = true

abbrev pub is_said : Outcome → Bool
is_said o = says o.answer

-- how many bytes are left
abbrev pub left : List ℕ → Walk → ℕ
left s w = length s - w.tally.place

-- ONE CALL: every look in vain goes on by a byte or more, so the bytes that are left are looks enough
unfoldable pub called : Definition → List ℕ → Walk → Outcome
called d s w = until (tick d s) is_said (left s w) w
