-- Walks for C (document 01, "Module order", the database host):
-- the count of a section, the values of one frame, and the rows of a walk that goes on where it stopped.
use Rattle.std.specs.Prelude.{ℕ, ◌/◌, cond, ◌&&◌, Option, Some, None, Result, Ok, Err, List, [], ◌∷◌, ◌++◌, leb, length}
use Rattle.std.proofs.lemmas.List.Edits.{sets}
use Rattle.plan.specs.declared.Definition.{Definition}
use Rattle.plan.specs.declared.Sort.{Sort}
use Rattle.plan.specs.Sound.{sound}
use Rattle.reader.specs.Place.{padded}
use Rattle.section.specs.declared.Answer.{Answer}
use Rattle.section.specs.declared.Tally.{Tally}
use Rattle.section.specs.declared.Walk.{Walk}
use Rattle.section.specs.Answers.{paper_of}
use Rattle.section.specs.Refusals.{Check, checked}
use Rattle.section.specs.Walk.{Outcome, start}
use Rattle.walks.specs.declared.Goal.TheVariants.{End, Frame}
use Rattle.walks.specs.Walks.{walked}
use Rattle.octets.specs.Bytes.{words}
use Rattle.store.specs.Definition.{is_definition, definition_at}
use Rattle.store.specs.State.{is_state, walk_at, with_state}
use Rattle.rows.specs.declared.Laid.{Laid}
use Rattle.rows.specs.declared.Unlaid.{Unlaid}
use Rattle.rows.specs.Rows.{next_rows}
use Rattle.dulimasca.specs.Told.{Reply, reply, told_length, telling, refuse, refuse10, if_room, packed_by, status_by, tally_numbers, sort_for}

-- ## The count of a section

-- how the whole walk ended, and what it counted
unfoldable pub count_reply : Tally → (told : List ℕ) → Reply
count_reply t told = reply (status_by t.ending) [] (telling (tally_numbers t) told)

unfoldable pub count_by : Definition → (s told : List ℕ) → Reply
count_by d s told = cond (sound d) (if_room (count_reply (walked End d s start).walk.tally told) [] told) (refuse10 [] told)

unfoldable pub count_of : (def s told : List ℕ) → Reply
count_of def s told = cond (is_definition def) (count_by (definition_at def) s told) (refuse10 [] told)

-- ## The values of one frame

-- The answer in document 01's numbers: the frame's place, iteration and time, or of a cut before it the letter and the place; fourth the trials so far.
unfoldable pub fill_numbers : Answer → (trials : ℕ) → List ℕ
fill_numbers a trials = padded 3 (paper_of a).values ++ (trials ∷ [])

-- four bytes a value
unfoldable pub filled : Outcome → (out told : List ℕ) → Reply
filled o out told = reply (paper_of o.answer).number (sets out 0 (words o.fields)) (telling (fill_numbers o.answer o.walk.tally.trials) told)

unfoldable pub checked_fill : Check → Outcome → (out told : List ℕ) → Reply
checked_fill (Ok u) o out told = if_room (filled o out told) out told
checked_fill (Err why) o out told = reply (packed_by why 4) out told

unfoldable pub fill_by : Option Sort → Definition → (s : List ℕ) → (k : ℕ) → (out told : List ℕ) → Reply
fill_by None d s k out told = refuse10 out told
fill_by (Some of) d s k out told =
    checked_fill (checked d start (length s) (length out / 4)) (walked (Frame of k) d s start) out told

unfoldable pub fill_of : (def s : List ℕ) → (kind k : ℕ) → (out told : List ℕ) → Reply
fill_of def s kind k out told = cond (is_definition def) (fill_by (sort_for kind) (definition_at def) s k out told) (refuse10 out told)

-- ## The rows of a walk

-- the answer's number, and what the three lent buffers hold: the state's, the rows', the numbers'
pub record RowsReply : Type 0 where
  pub answer : ℕ
  pub state : List ℕ
  pub out : List ℕ
  pub told : List ℕ

-- a refusal hands the state back and writes no row
abbrev pub kept : (state : List ℕ) → Reply → RowsReply
kept st r = record { answer = r.answer; state = st; out = r.lent; told = r.told }

-- how the walk stands behind the rows, which are in the buffer now: its status, the walk as bytes, its tally, and how many rows there are
unfoldable pub rows_reply : Laid → (lent st told : List ℕ) → RowsReply
rows_reply x lent st told =
    record {
      answer = status_by x.walk.tally.ending;
      state = with_state x.walk st;
      out = lent;
      told = telling (tally_numbers x.walk.tally ++ (x.count ∷ [])) told;
    }

-- without room for the numbers: 10, and 11 of the rows' own buffer, come first
unfoldable pub checked_reply : Result Laid Unlaid → (lent st out told : List ℕ) → RowsReply
checked_reply (Ok x) lent st out told = cond (leb told_length (length told)) (rows_reply x lent st told) (kept st (refuse 11 told_length out told))
checked_reply (Err r) lent st out told = kept st (reply (packed_by r.why 1) out told)

unfoldable pub rows_by : Definition → Walk → (st s out told : List ℕ) → RowsReply
rows_by d w st s out told = let x = next_rows d s w out in checked_reply x.given x.out st out told

unfoldable pub rows_of : (def st s out told : List ℕ) → RowsReply
rows_of def st s out told = cond (is_definition def && is_state st) (rows_by (definition_at def) (walk_at st) st s out told) (kept st (refuse10 out told))
