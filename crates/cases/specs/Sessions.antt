-- The session of a log (document 01, "Sessions to reproduce"): what each call of its walk answers, until one is over, and the tally behind it.
-- The whole way is computed, from the bytes of the log on.
use Rattle.std.specs.Prelude.{ℕ, zero, suc, cond, List, [], ◌∷◌, ◌++◌, length, drop}
use Rattle.header.specs.Header.{header_of}
use Rattle.items.specs.Text.{ascii}
use Rattle.plan.specs.declared.Definition.{Definition}
use Rattle.plan.specs.Plan.{no_numbers, plain}
use Rattle.definition.specs.Defined.{defined}
use Rattle.section.specs.declared.Ending.{Ending}
use Rattle.section.specs.declared.Tally.{Tally}
use Rattle.section.specs.declared.Walk.{Walk}
use Rattle.section.specs.Answers.{Paper, is_over, paper_of}
use Rattle.section.specs.Walk.{Outcome, start}
use Rattle.calls.specs.Call.{called}

-- a line for each call, and the tally behind the last
pub record Session : Type 0 where
  pub lines : List Paper
  pub tally : Tally

abbrev pub paper : ℕ → List ℕ → Paper
paper number values = record { number = number; values = values }

-- ## The session

-- what a call answers, in document 01's numbers, and behind them the fields that it hands out
abbrev line_of : Outcome → Paper
line_of o = paper (paper_of o.answer).number ((paper_of o.answer).values ++ o.fields)

unfoldable pub last_call : Outcome → Session
last_call o = record { lines = line_of o ∷ []; tally = o.walk.tally }

unfoldable pub before : Outcome → Session → Session
before o r = record { lines = line_of o ∷ r.lines; tally = r.tally }

-- a call and those behind it, until one is over; at most n more than one
unfoldable pub calls_from : Definition → List ℕ → (n : ℕ) → Walk → Session
calls_from d s zero w = last_call (called d s w)
calls_from d s (suc n) w =
    cond (is_over (called d s w).answer) (last_call (called d s w)) (before (called d s w) (calls_from d s n (called d s w).walk))

-- every call that accepts a frame goes on by a byte or more, so the section's bytes are calls enough
unfoldable pub calls_over : Definition → List ℕ → Session
calls_over d s = calls_from d s (length s) start

-- a log's lists, without header numbers, every loop iteration logged
abbrev pub definition_in : (log : List ℕ) → Definition
definition_in log = (defined log (header_of log).lists no_numbers plain).definition

-- its section stands behind its header lines
abbrev section_in : (log : List ℕ) → List ℕ
section_in log = drop (header_of log).section log

abbrev pub session : (log : List ℕ) → Session
session log = calls_over (definition_in log) (section_in log)

-- ## As document 01 writes them

-- section A
abbrev pub section_a : List ℕ
section_a = 0x49 ∷ 0x05 ∷ 0x64 ∷ 0x14 ∷ 0x50 ∷ 0x0A ∷ 0x02 ∷ 0x50 ∷ 0x00 ∷ 0x01 ∷ 0x45 ∷ 0xFF ∷ ascii "End of log" ++ 0x00 ∷ []

-- a line: letter, place, then iteration, time and fields
abbrev pub I : List ℕ → Paper
I = paper 0x49

abbrev pub P : List ℕ → Paper
P = paper 0x50

-- or event type and its two numbers, absent ones as 0
abbrev pub E : List ℕ → Paper
E = paper 0x45

-- or fields alone
abbrev pub S : List ℕ → Paper
S = paper 0x53

-- the last call
abbrev pub out_of_data : Paper
out_of_data = paper 1 []

-- a cut names its kind byte and the place of that
abbrev pub cut : (letter at : ℕ) → Paper
cut letter at = paper 2 (letter ∷ at ∷ [])

abbrev pub done : Paper
done = paper 3 []

-- the last line's counts, with the walk's ending and place
infix 10 end◌at◌main◌event◌slow◌tried◌rejected◌
abbrev pub end◌at◌main◌event◌slow◌tried◌rejected◌ : Ending → (place main event slow tried rejected : ℕ) → Tally
end◌at◌main◌event◌slow◌tried◌rejected◌ ending place m e s t r =
    record { place = place; ending = ending; counts = m ∷ e ∷ s ∷ r ∷ []; trials = t }
