-- Worked walks: whole sessions, single calls with a lent buffer, refusals 10 and 11, and what the database host asks for. None here is starred.
use Rattle.std.specs.Prelude.{ℕ, List, [], ◌∷◌, ◌++◌, ◌≡◌}
use Prim.Native.String.{String}
use Rattle.items.specs.Text.{ascii}
use Rattle.plan.specs.declared.Definition.{Definition}
use Rattle.plan.specs.Plan.{no_numbers, plain}
use Rattle.reader.specs.declared.Kind.TheVariants as kind
use Rattle.reader.specs.Place.{padded}
use Rattle.frame.specs.declared.MainFrame.{MainFrame}
use Rattle.frame.specs.declared.Mark.TheVariants as mark
use Rattle.frame.specs.Past.{main_frame, no_frame}
use Rattle.section.specs.declared.Ending.TheVariants.{Going, Done, Out, Cut}
use Rattle.section.specs.declared.Looked.{Looked}
use Rattle.section.specs.declared.Tally.{Tally}
use Rattle.section.specs.declared.Walk.{Walk}
use Rattle.section.specs.Answers.{Paper, Told, told}
use Rattle.section.specs.Walk.{start}
use Rattle.calls.specs.Owes.{CallOwes}
use Rattle.walks.specs.declared.Counted.{Counted}
use Rattle.plan.specs.declared.Sort.{Sort}
use Rattle.plan.specs.declared.Sort.TheVariants.{Main, Slow}
use Rattle.walks.specs.Owes.{CountOwes, FillOwes, counts}
use Rattle.cases.specs.Lists.{lists_a, with_slow}
use Rattle.cases.specs.Sessions.{session, definition_in, paper, I, P, E, S, done, out_of_data, cut, end◌at◌main◌event◌slow◌tried◌rejected◌, section_a}

pub data Case : Type 0 where
  -- a log's lists and its section: a line for each call, and the tally behind the last
  walk : (lists : String) → (section : List ℕ) → List Paper → Tally → Case
  -- one call from a walk, with a lent buffer: all that it gives
  call : Definition → Walk → (section out : List ℕ) → Told → Case
  -- one call that is refused: its number and place
  refused : Definition → Walk → (section out : List ℕ) → (number place : ℕ) → Case
  -- a whole walk over a section: its last answer, and what it counted
  counted : Definition → (section : List ℕ) → Paper → Tally → Case
  -- the k-th frame of a sort, with a lent buffer
  filled : Definition → (section : List ℕ) → Sort → (k : ℕ) → (out : List ℕ) → Told → Case

-- ## Definitions

-- that of document 01's lists
abbrev pub by_lists_a : Definition
by_lists_a = definition_in (ascii lists_a)

-- so many items and slow items, of which the first behind `time` has these predictors in intra and inter frames,
-- and the first slow one that of intra frames; all have this encoding
abbrev pub made_of : (items slow_items intra inter encoding : ℕ) → Definition
made_of n m p q e =
    record {
      main =
          record {
            n = n;
            motor = 62;
            intra_predictors = padded 62 (p ∷ []);
            inter_predictors = padded 62 (q ∷ []);
            intra_encodings = padded 62 (e ∷ []);
            inter_encodings = padded 62 (e ∷ []);
            signs = padded 62 [];
          };
      slow = record { n = m; predictors = padded 16 (p ∷ []); encodings = padded 16 (e ∷ []); signs = padded 16 [] };
      numbers = no_numbers;
      settings = plain;
    }

-- one predictor for all of them
abbrev made : (items slow_items predictor encoding : ℕ) → Definition
made n m p e = made_of n m p p e

-- that of document 01's lists with another interval
abbrev every : (intra numerator denominator : ℕ) → Definition
every i n d =
    record {
      main = by_lists_a.main;
      slow = by_lists_a.slow;
      numbers = no_numbers;
      settings = record { interval = record { intra = i; numerator = n; denominator = d } };
    }

-- ## Walks

-- the two main frames before the next, and the tally
abbrev behind : (last older : MainFrame) → Tally → Walk
behind last older t = record { tally = t; history = record { last = last; older = older } }

abbrev fresh : Tally → Walk
fresh = behind no_frame no_frame

-- section A's main frames, and the walks behind them and behind its end
abbrev first_a : MainFrame
first_a = main_frame mark.Intra 5 100 (1510 ∷ [])

abbrev second_a : MainFrame
second_a = main_frame mark.Inter 6 105 (1511 ∷ [])

abbrev third_a : MainFrame
third_a = main_frame mark.Inter 7 110 (1510 ∷ [])

abbrev behind_first : Walk
behind_first = behind first_a no_frame (end Going at 4 main 1 event 0 slow 0 tried 1 rejected 0)

abbrev behind_second : Walk
behind_second = behind second_a first_a (end Going at 7 main 2 event 0 slow 0 tried 2 rejected 0)

abbrev behind_all : Walk
behind_all = behind third_a second_a (end Done at 23 main 3 event 1 slow 0 tried 4 rejected 0)

-- walks that ended before any frame
abbrev ran_out : Walk
ran_out = fresh (end Out at 0 main 0 event 0 slow 0 tried 0 rejected 0)

abbrev was_cut : Walk
was_cut = fresh (end (Cut kind.Intra 0) at 1 main 0 event 0 slow 0 tried 1 rejected 0)

-- a walk that has gone beyond the four bytes of `frame`
abbrev beyond : Walk
beyond = fresh (end Going at 5 main 0 event 0 slow 0 tried 0 rejected 0)

-- an answer, the walk behind it, whose trials it reports, and the buffer's content
abbrev gives : Paper → Walk → (out : List ℕ) → Told
gives said w out = record { said = said; trials = w.tally.trials; walk = w; out = out }

-- ## Bytes and buffers

-- an intra frame, as section A begins
abbrev frame : List ℕ
frame = 0x49 ∷ 0x05 ∷ 0x64 ∷ 0x14 ∷ []

-- type 255 with its text and zero byte
abbrev closing : List ℕ
closing = 0x45 ∷ 0xFF ∷ ascii "End of log" ++ 0x00 ∷ []

-- two places more than document 01's lists need
abbrev room : List ℕ
room = 7 ∷ 8 ∷ 9 ∷ []

-- ## The cases

unfoldable pub sessions : List Case
sessions =
    -- an empty section
    walk lists_a [] (out_of_data ∷ []) (end Out at 0 main 0 event 0 slow 0 tried 0 rejected 0)
    -- time 3 in an intra frame, offset -5
    ∷ walk lists_a (0x49 ∷ 0x00 ∷ 0x03 ∷ 0x14 ∷ 0x50 ∷ 0x09 ∷ 0x02 ∷ []) (I (0 ∷ 0 ∷ 3 ∷ 1510 ∷ []) ∷ P (4 ∷ 1 ∷ 0 ∷ 1511 ∷ []) ∷ out_of_data ∷ [])
    (end Out at 7 main 2 event 0 slow 0 tried 2 rejected 0)
    -- a byte of the closing text is wrong: E is rejected, and I behind it is cut
    ∷ walk lists_a (0x45 ∷ 0xFF ∷ 0x49 ∷ []) (cut 0x49 2 ∷ []) (end (Cut kind.Intra 2) at 3 main 0 event 0 slow 0 tried 2 rejected 1)
    -- the data ends in the text, or before its zero byte
    ∷ walk lists_a (0x45 ∷ 0xFF ∷ 0x45 ∷ []) (cut 0x45 0 ∷ []) (end (Cut kind.Event 0) at 3 main 0 event 0 slow 0 tried 1 rejected 0)
    ∷ walk lists_a (0x45 ∷ 0xFF ∷ ascii "End of log") (cut 0x45 0 ∷ []) (end (Cut kind.Event 0) at 12 main 0 event 0 slow 0 tried 1 rejected 0)
    -- the text before a byte that starts no frame is rejected, and so is the E that it begins with
    ∷ walk lists_a (closing ++ 0x58 ∷ []) (out_of_data ∷ []) (end Out at 14 main 0 event 0 slow 0 tried 2 rejected 2)
    -- bytes behind done are not read
    ∷ walk lists_a (closing ++ frame) (E (0 ∷ 255 ∷ 0 ∷ 0 ∷ []) ∷ done ∷ []) (end Done at 13 main 0 event 1 slow 0 tried 1 rejected 0)
    -- types 0 and 14, 15 and 30; other types are corrupt
    ∷ walk lists_a (0x45 ∷ 0x00 ∷ 0x64 ∷ 0x45 ∷ 0x0E ∷ 0x01 ∷ 0x02 ∷ []) (E (0 ∷ 0 ∷ 100 ∷ 0 ∷ []) ∷ E (3 ∷ 14 ∷ 1 ∷ 2 ∷ []) ∷ out_of_data ∷ [])
    (end Out at 7 main 0 event 2 slow 0 tried 2 rejected 0)
    ∷ walk lists_a (0x45 ∷ 0x0F ∷ 0x03 ∷ 0x45 ∷ 0x1E ∷ 0x04 ∷ 0x05 ∷ []) (E (0 ∷ 15 ∷ 3 ∷ 0 ∷ []) ∷ E (3 ∷ 30 ∷ 4 ∷ 5 ∷ []) ∷ out_of_data ∷ [])
    (end Out at 7 main 0 event 2 slow 0 tried 2 rejected 0)
    ∷ walk lists_a (0x45 ∷ 0x01 ∷ 0x00 ∷ []) (out_of_data ∷ []) (end Out at 3 main 0 event 0 slow 0 tried 1 rejected 1)
    -- G, H and, without slow lists, S are rejected at once, and never cut
    ∷ walk lists_a (0x47 ∷ 0x48 ∷ 0x53 ∷ frame) (I (3 ∷ 5 ∷ 100 ∷ 1510 ∷ []) ∷ out_of_data ∷ []) (end Out at 7 main 1 event 0 slow 0 tried 4 rejected 3)
    ∷ walk lists_a (0x47 ∷ 0x48 ∷ 0x53 ∷ []) (out_of_data ∷ []) (end Out at 3 main 0 event 0 slow 0 tried 3 rejected 3)
    -- slow frames: 5, and -2 as a pattern; the second is cut
    ∷ walk (with_slow "0,0" "1,0" "0,1") (0x53 ∷ 0x05 ∷ 0x03 ∷ 0x53 ∷ 0x06 ∷ []) (S (0 ∷ 5 ∷ 4294967294 ∷ []) ∷ cut 0x53 3 ∷ [])
    (end (Cut kind.Slow 3) at 5 main 0 event 0 slow 1 tried 2 rejected 0)
    -- an inter frame that is rejected for what follows changes no history: P at 8 is predicted from I at 0
    ∷ walk lists_a (frame ++ 0x50 ∷ 0x0A ∷ 0x02 ∷ 0x58 ∷ 0x50 ∷ 0x0A ∷ 0x04 ∷ []) (I (0 ∷ 5 ∷ 100 ∷ 1510 ∷ []) ∷ P (8 ∷ 6 ∷ 105 ∷ 1512 ∷ []) ∷ out_of_data ∷ [])
    (end Out at 11 main 2 event 0 slow 0 tried 3 rejected 1)
    -- the search starts behind a rejected trial's first byte, not where its decoding stopped
    ∷ walk lists_a (0x50 ∷ frame) (I (1 ∷ 5 ∷ 100 ∷ 1510 ∷ []) ∷ out_of_data ∷ []) (end Out at 5 main 1 event 0 slow 0 tried 2 rejected 1)
    ∷ []

unfoldable pub calls : List Case
calls =
    -- the fields stand in the buffer's first places, and the rest keep their content
    call by_lists_a start section_a room (gives (I (0 ∷ 5 ∷ 100 ∷ [])) behind_first (1510 ∷ 8 ∷ 9 ∷ []))
    ∷ call by_lists_a behind_first section_a room (gives (P (4 ∷ 6 ∷ 105 ∷ [])) behind_second (1511 ∷ 8 ∷ 9 ∷ []))
    -- an event leaves the buffer alone, and so does an ending
    ∷ call by_lists_a start (0x45 ∷ 0x00 ∷ 0x64 ∷ []) room
    (gives (E (0 ∷ 0 ∷ 100 ∷ 0 ∷ [])) (fresh (end Going at 3 main 0 event 1 slow 0 tried 1 rejected 0)) room)
    ∷ call by_lists_a start [] room (gives out_of_data ran_out room)
    ∷ call by_lists_a start (0x49 ∷ []) room (gives (cut 0x49 0) was_cut room)
    -- endings last, even if a longer section is lent
    ∷ call by_lists_a ran_out section_a room (gives out_of_data ran_out room)
    ∷ call by_lists_a was_cut section_a room (gives (cut 0x49 0) was_cut room)
    ∷ call by_lists_a behind_all (section_a ++ frame) room (gives done behind_all room)
    -- 10: a place beyond the section; trials above the place; trials that are not the sum of their parts; an older frame without a last
    ∷ refused by_lists_a beyond frame room 10 0
    ∷ refused by_lists_a (fresh (end Going at 0 main 0 event 0 slow 0 tried 1 rejected 1)) frame room 10 0
    ∷ refused by_lists_a (fresh (end Going at 4 main 1 event 1 slow 1 tried 3 rejected 1)) frame room 10 0
    ∷ refused by_lists_a (behind no_frame first_a (end Going at 4 main 1 event 0 slow 0 tried 1 rejected 0)) frame room 10 0
    -- 10: 63 fields; 17 slow fields; predictor 12; encoding 2; predictor 4 without its number; predictor 5 without `motor[0]`
    ∷ refused (made 65 0 0 0) start frame room 10 0
    ∷ refused (made 3 17 0 0) start frame room 10 0
    ∷ refused (made 3 0 12 0) start frame room 10 0
    ∷ refused (made 3 0 0 2) start frame room 10 0
    ∷ refused (made 3 0 4 0) start frame room 10 0
    ∷ refused (made 3 0 5 0) start frame room 10 0
    -- the same of a slow field
    ∷ refused (made 2 1 12 0) start frame room 10 0
    ∷ refused (made 2 1 0 2) start frame room 10 0
    ∷ refused (made 2 1 5 0) start frame room 10 0
    -- intervals that 9 refuses
    ∷ refused (every 1 1 2) start frame room 10 0
    ∷ refused (every 0 1 1) start frame room 10 0
    -- 11: one field and no place for it; two slow fields and one place
    ∷ refused by_lists_a start frame [] 11 1
    ∷ refused (made 3 2 0 0) start frame (7 ∷ []) 11 2
    -- 10 comes before 11
    ∷ refused by_lists_a beyond frame [] 10 0
    -- both on a finished walk too
    ∷ refused by_lists_a behind_all frame room 10 0
    ∷ refused by_lists_a behind_all section_a [] 11 1
    ∷ []

unfoldable pub host : List Case
host =
    counted by_lists_a section_a done (end Done at 23 main 3 event 1 slow 0 tried 4 rejected 0)
    -- main frames are numbered from 0: there is no main frame 3 in section A
    ∷ filled by_lists_a section_a Main 1 room (gives (P (4 ∷ 6 ∷ 105 ∷ [])) behind_second (1511 ∷ 8 ∷ 9 ∷ []))
    ∷ filled by_lists_a section_a Main 3 room (gives done behind_all room)
    -- the second of two slow frames with one field
    ∷ filled (made 2 1 0 1) (0x53 ∷ 0x05 ∷ 0x53 ∷ 0x06 ∷ []) Slow 1 room
    (gives (S (2 ∷ [])) (fresh (end Going at 4 main 0 event 0 slow 2 tried 2 rejected 0)) (6 ∷ 8 ∷ 9 ∷ []))
    ∷ []

-- What a case says: of the definitions, where it is a session, and else of every answer that meets the function's promise.
-- A refusal hands back the state that it was given and writes nothing; it reports no trials.
abbrev pub Says : Case → Type 0
Says (walk lists s lines tally) = session (ascii lists ++ s) ≡ record { lines = lines; tally = tally }
Says (call d w s out r) = (looked : Looked) (after : List ℕ) → CallOwes d w s out looked after → told looked after ≡ r
Says (refused d w s out number place) =
    (looked : Looked) (after : List ℕ) → CallOwes d w s out looked after
    → told looked after ≡ record { said = paper number (place ∷ []); trials = 0; walk = w; out = out }
Says (counted d s said tally) = (count : Counted) → CountOwes d s count → counts count ≡ record { said = said; tally = tally }
Says (filled d s of k out r) = (looked : Looked) (after : List ℕ) → FillOwes d s of k out looked after → told looked after ≡ r

abbrev pub Hold : List Case → Type 0
Hold [] = Unit
Hold (c ∷ cs) = Says c × Hold cs
