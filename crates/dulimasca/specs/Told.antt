-- What C is told: one number, below 256 a status and from 256 on a refusal, and beside a status eight numbers in lent bytes.
use Rattle.std.specs.Prelude.{ℕ, ◌+◌, ◌*◌, min, Option, Some, None, Result, Ok, Err, List, [], ◌∷◌, cond, eqb, leb, length, get_or, drop}
use Rattle.std.specs.Option.{unwrap_or}
use Rattle.std.proofs.lemmas.List.Edits.{sets}
use Rattle.octets.specs.Bytes.{longs, num64}
use Rattle.items.specs.declared.Stretch.{Stretch}
use Rattle.plan.specs.declared.Sort.{Sort}
use Rattle.plan.specs.declared.Sort.TheVariants.{Main, Slow}
use Rattle.reader.specs.Place.{padded}
use Rattle.section.specs.declared.Ending.{Ending}
use Rattle.section.specs.declared.Ending.TheVariants.{Going, Done, Out, Cut}
use Rattle.section.specs.declared.Refusal.{Refusal}
use Rattle.section.specs.declared.Refusal.TheVariants.{Unsound, TooShort}
use Rattle.section.specs.declared.Tally.{Tally}
use Rattle.section.specs.Refusals.{Check, pass}

-- ## A refusal in one number

-- 2^48 - 1: a place that is further off is told as this one
abbrev pub most_place : ℕ
most_place = 281474976710655

-- Its number in document 01's table in the lowest byte, its round and 1 in the next, its place above: 256 or more. Only refusal 3 has a round, the others 0.
unfoldable pub packed : (number place round : ℕ) → ℕ
packed number place round = number + 256 * (round + 1) + 65536 * min place most_place

-- ## What is told beside a status

abbrev pub told_length : ℕ
told_length = 64

-- eight numbers, 0 where there is nothing to tell; bytes behind them keep their content
unfoldable pub telling : (numbers told : List ℕ) → List ℕ
telling numbers told = sets told 0 (longs (padded 8 numbers))

-- and the number at a place of them, from 0, as a host reads it
unfoldable pub number_told : (i : ℕ) → (told : List ℕ) → ℕ
number_told i told = num64 (drop (8 * i) told)

-- ## A function's answer

-- its number, and what the lent buffer and the bytes for the numbers hold
pub record Reply : Type 0 where
  pub answer : ℕ
  pub lent : List ℕ
  pub told : List ℕ

abbrev pub reply : (answer : ℕ) → (lent told : List ℕ) → Reply
reply answer lent told = record { answer = answer; lent = lent; told = told }

-- A REFUSAL WRITES NOTHING
abbrev pub refuse : (number place : ℕ) → (lent told : List ℕ) → Reply
refuse number place lent told = reply (packed number place 0) lent told

-- bytes that are no definition or no state, a kind that there is not: refusal 10
abbrev pub refuse10 : (lent told : List ℕ) → Reply
refuse10 lent told = refuse 10 0 lent told

-- an answer, where the numbers have room: it is looked for behind that of every other buffer (11)
unfoldable pub if_room : Reply → (lent told : List ℕ) → Reply
if_room r lent told = cond (leb told_length (length told)) r (refuse 11 told_length lent told)

-- the needed length that a refusal names
unfoldable pub needed_by : Refusal → ℕ
needed_by Unsound = 0
needed_by (TooShort n) = n

-- a walk's refusal; a needed length is one in bytes, of which a place of the buffer takes so many
unfoldable pub packed_by : Refusal → (bytes : ℕ) → ℕ
packed_by Unsound b = packed 10 0 0
packed_by (TooShort n) b = packed 11 (b * n) 0

-- what C is answered: a status, or a refusal in one number
abbrev pub answered : Result ℕ Refusal → ℕ
answered (Ok status) = status
answered (Err why) = packed_by why 1

-- a needed length told in bytes
unfoldable pub in_bytes : Check → (bytes : ℕ) → Check
in_bytes (Ok u) b = pass
in_bytes (Err Unsound) b = Err Unsound
in_bytes (Err (TooShort n)) b = Err (TooShort (b * n))

-- lent bytes that have to be so many
unfoldable pub roomy : (lent : List ℕ) → (least : ℕ) → Check
roomy lent least = cond (leb least (length lent)) pass (Err (TooShort least))

-- ## Statuses and numbers

-- 0: there may be more; 1 out of data; 2 cut; 3 done
unfoldable pub status_by : Ending → ℕ
status_by Going = 0
status_by Out = 1
status_by (Cut k p) = 2
status_by Done = 3

-- the place of the trial that was cut; otherwise the walk's
unfoldable pub place_by : Ending → ℕ → ℕ
place_by Going p = p
place_by Out p = p
place_by (Cut k q) p = q
place_by Done p = p

-- a place; accepted main, event and slow frames; rejected trials; trials
unfoldable pub tally_numbers : Tally → List ℕ
tally_numbers t =
    place_by t.ending t.place
    ∷ get_or t.counts 0 0 ∷ get_or t.counts 1 0 ∷ get_or t.counts 2 0 ∷ get_or t.counts 3 0
    ∷ t.trials ∷ []

-- 0 main, 1 slow: which frames have values, and which fields have names
unfoldable pub sort_for : ℕ → Option Sort
sort_for n = cond (eqb n 0) (Some Main) (cond (eqb n 1) (Some Slow) None)

-- where a stretch begins and ends; an absent one is empty
abbrev nowhere : Stretch
nowhere = record { start = 0; end = 0 }

abbrev pub stretch_start : Option Stretch → ℕ
stretch_start s = (unwrap_or s nowhere).start

abbrev pub stretch_end : Option Stretch → ℕ
stretch_end s = (unwrap_or s nowhere).end
