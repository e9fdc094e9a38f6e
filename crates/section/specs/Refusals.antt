-- Refusals 10 and 11: both come before any answer, on a finished walk too (document 01, the table under "Definition lists" and the paragraph behind it).
use Rattle.std.specs.Prelude.{ℕ, ◌+◌, Bool, cond, ◌&&◌, eqb, leb, max, get_or, Result, Ok, Err}
use Rattle.plan.specs.declared.Definition.{Definition}
use Rattle.plan.specs.Plan.{fields}
use Rattle.plan.specs.Sound.{sound}
use Rattle.history.specs.History as history
use Rattle.section.specs.declared.Ending.{Ending}
use Rattle.section.specs.declared.Ending.TheVariants.{Going, Done, Out, Cut}
use Rattle.section.specs.declared.Refusal.{Refusal}
use Rattle.section.specs.declared.Refusal.TheVariants.{Unsound, TooShort}
use Rattle.section.specs.declared.Tally.{Tally}
use Rattle.section.specs.declared.Walk.{Walk}

-- a final cut is a trial
unfoldable pub cuts : Ending → ℕ
cuts Going = 0
cuts Done = 0
cuts Out = 0
cuts (Cut k p) = 1

-- the trials of a tally are its accepted main, event and slow frames, its rejected trials, and a final cut
unfoldable pub parts_of : Tally → ℕ
parts_of t = get_or t.counts 0 0 + get_or t.counts 1 0 + get_or t.counts 2 0 + get_or t.counts 3 0 + cuts t.ending

-- a place within the section, no more trials than that, which are the sum of their parts
unfoldable pub tally_sound : (length : ℕ) → Tally → Bool
tally_sound z t = leb t.place z && (leb t.trials t.place && eqb t.trials (parts_of t))

-- what is not so is refused (10)
unfoldable pub admitted : Definition → (length : ℕ) → Walk → Bool
admitted d z w = tally_sound z w.tally && (history.sound w.history && sound d)

-- the larger field count: a value buffer that is shorter is refused (11)
unfoldable pub needed : Definition → ℕ
needed d = max (fields d.main) d.slow.n

-- no refusal, or one
abbrev pub Check : Type 0
Check = Result (Unit {0}) Refusal

abbrev pub pass : Check
pass = Ok tt

-- 10 comes before 11 (`refusal_for`, in Answers.antt, is the same in numbers)
unfoldable pub checked : Definition → Walk → (length room : ℕ) → Check
checked d w z room = cond (admitted d z w) (cond (leb (needed d) room) pass (Err (TooShort (needed d)))) (Err Unsound)
