-- The rows of a walk: a row of bytes for each accepted frame, one length for a definition, numbers low byte first (the layout is this project's own).
-- At 0 the letter's byte in 32 bits, 4 the iteration in 32, 8 the place of the kind byte in 64, 16 the time in 64; from 24 on the values, 32 bits each.
use Rattle.std.specs.Prelude.{ℕ, zero, suc, ◌+◌, ◌*◌, ◌/◌, min, max, cond, Result, Ok, Err, List, [], ◌∷◌, ◌++◌, leb, length, take}
use Rattle.std.proofs.lemmas.List.Edits.{sets}
use Rattle.plan.specs.declared.Definition.{Definition}
use Rattle.reader.specs.Place.{padded}
use Rattle.section.specs.declared.Answer.{Answer}
use Rattle.section.specs.declared.Answer.TheVariants.{Passed, Rejected, Event, Intra, Inter, Slow, Over, Refused}
use Rattle.section.specs.declared.Refusal.TheVariants.{Unsound, TooShort}
use Rattle.section.specs.declared.Walk.{Walk}
use Rattle.section.specs.Answers.{is_over}
use Rattle.section.specs.Refusals.{Check, pass, admitted, needed}
use Rattle.section.specs.Walk.{Outcome}
use Rattle.calls.specs.Call.{called}
use Rattle.octets.specs.Bytes.{le32, le64, words}
use Rattle.rows.specs.declared.Laid.{Laid}
use Rattle.rows.specs.declared.Unlaid.{Unlaid}

-- ## A row

-- a place for every field, and for the three numbers of an event; no sound definition has more than 62 fields
unfoldable pub width : Definition → ℕ
width d = min 62 (max 3 (needed d))

unfoldable pub row_length : Definition → ℕ
row_length d = 24 + 4 * width d

-- what it says of a frame: its letter, iteration, place and time, and the values that it shows; what a frame does not have is 0
pub record Row : Type 0 where
  pub letter : ℕ
  pub iteration : ℕ
  pub place : ℕ
  pub time : ℕ
  pub values : List ℕ

abbrev pub row : (letter iteration place time : ℕ) → (values : List ℕ) → Row
row l i p t vs = record { letter = l; iteration = i; place = p; time = t; values = vs }

-- What an answer shows, with its fields in 62 places. An event has no fields: its type and both its numbers stand there. What is no frame has no row.
unfoldable pub row_for : Answer → (fields : List ℕ) → Row
row_for Passed vs = row 0 0 0 0 vs
row_for (Rejected k p) vs = row 0 0 0 0 vs
row_for (Event x) vs = row 69 0 x.at 0 (sets vs 0 (x.event.code ∷ x.event.first ∷ x.event.second ∷ []))
row_for (Intra x) vs = row 73 x.iteration x.at x.time vs
row_for (Inter x) vs = row 80 x.iteration x.at x.time vs
row_for (Slow x) vs = row 83 0 x.at 0 vs
row_for (Over e) vs = row 0 0 0 0 vs
row_for (Refused why) vs = row 0 0 0 0 vs

-- the bytes of a row with n values
unfoldable pub row_bytes : (n : ℕ) → Row → List ℕ
row_bytes n r = le32 r.letter ++ le32 r.iteration ++ le64 r.place ++ le64 r.time ++ words (take n r.values)

-- places behind the last field are 0
unfoldable pub row_of : Definition → Outcome → List ℕ
row_of d o = row_bytes (width d) (row_for o.answer (padded 62 o.fields))

-- ## Rows one behind the other

-- some rows of a walk, and the walk behind them
pub record Rows : Type 0 where
  pub rows : List (List ℕ)
  pub walk : Walk

abbrev pub in_front : List ℕ → Rows → Rows
in_front r x = record { rows = r ∷ x.rows; walk = x.walk }

-- calls until one is over, and at most k of them: a row for each that accepts a frame
unfoldable pub rows_from : Definition → List ℕ → (k : ℕ) → Walk → Rows
rows_from d s zero w = record { rows = []; walk = w }
rows_from d s (suc k) w =
    let o = called d s w in
    cond (is_over o.answer) (record { rows = []; walk = o.walk }) (in_front (row_of d o) (rows_from d s k o.walk))

-- THE ROWS OF A WHOLE WALK: every call that accepts a frame goes on by a byte or more, so there are no more rows than bytes
unfoldable pub all_rows : Definition → List ℕ → Walk → List (List ℕ)
all_rows d s w = (rows_from d s (length s) w).rows

unfoldable pub joined : List (List ℕ) → List ℕ
joined [] = []
joined (r ∷ rs) = r ++ joined rs

-- ## A lent buffer

-- 10, and 11 with the length of a row
unfoldable pub checked_rows : Definition → Walk → (length room : ℕ) → Check
checked_rows d w z room = cond (admitted d z w) (cond (leb (row_length d) room) pass (Err (TooShort (row_length d)))) (Err Unsound)

-- all that is given: how many rows and the walk behind them, or the refusal and the walk before it; and the buffer's content
pub record Told : Type 0 where
  pub given : Result Laid Unlaid
  pub out : List ℕ

abbrev pub told : Result Laid Unlaid → (out : List ℕ) → Told
told r out = record { given = r; out = out }

-- the rows stand in front of the buffer; the rest keeps its content
unfoldable pub laid_out : Rows → (out : List ℕ) → Told
laid_out x out = told (Ok (record { count = length x.rows; walk = x.walk })) (sets out 0 (joined x.rows))

-- a refusal hands the walk back and writes nothing
unfoldable pub checked_first : Check → Rows → Walk → (out : List ℕ) → Told
checked_first (Ok u) x w out = laid_out x out
checked_first (Err why) x w out = told (Err (record { why = why; walk = w })) out

-- as many rows as there is room for
unfoldable pub next_rows : Definition → List ℕ → Walk → (out : List ℕ) → Told
next_rows d s w out = checked_first (checked_rows d w (length s) (length out)) (rows_from d s (length out / row_length d) w) w out
