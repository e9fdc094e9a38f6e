-- Worked frames: those of document 01's sessions, and others on groups, histories, times and predictors. No frame here is starred.
use Rattle.std.specs.Prelude.{ℕ, ◌-◌, ◌^◌, true, false, List, [], ◌∷◌, ◌≡◌, length, replicate, Option, Some, None}
use Rattle.plan.specs.Plan as plan
use Rattle.plan.specs.Plan.{Shape, Rules, no_numbers}
use Rattle.reader.specs.Got.{got, cut, corrupt}
use Rattle.reader.specs.Place.{padded}
use Rattle.frame.specs.declared.Mark.TheVariants.{Intra, Inter}
use Rattle.frame.specs.Frames.{intra_read, inter_read, slow_read}
use Rattle.frame.specs.Past.{Body, past_of, main_frame}

-- the fields of a definition, one list for all kinds of frames: their predictors in intra and inter frames, and their encodings
pub record Fields : Type 0 where
  pub intra : List ℕ
  pub inter : List ℕ
  pub encodings : List ℕ

abbrev pub shape_of : Fields → Shape
shape_of f = record { intra = f.encodings; inter = f.encodings; slow = Some f.encodings }

abbrev pub rules_of : Fields → Rules
rules_of f = record { intra = f.intra; inter = f.inter; slow = f.intra; motor = 0; numbers = no_numbers; interval = (plan.plain).interval }

pub data Case : Type 0 where
  -- what the frames before were, the bytes behind the kind byte, and what all of them are: the iteration, the time and the fields
  intra : Fields → (last older : Option Body) → List ℕ → (iteration time : ℕ) → List ℕ → Case
  inter : Fields → (last older : Option Body) → List ℕ → (iteration time : ℕ) → List ℕ → Case
  slow : Fields → List ℕ → List ℕ → Case
  -- no frame: slow frames do as well as others
  ends : Fields → List ℕ → Case
  faulty : Fields → List ℕ → Case

-- document 01's lists: predictor 8 in intra frames and 1 in inter frames, encoding 0
abbrev session : Fields
session = record { intra = 8 ∷ []; inter = 1 ∷ []; encodings = 0 ∷ [] }

abbrev plain : List ℕ → Fields
plain es = record { intra = replicate (length es) 0; inter = replicate (length es) 0; encodings = es }

abbrev straight_on : Fields
straight_on = record { intra = 2 ∷ []; inter = 2 ∷ []; encodings = 0 ∷ [] }

-- an earlier frame: its iteration, its time and its only field
abbrev full : ℕ → ℕ → ℕ → Option Body
full i t v = Some (record { inter = false; iteration = i; time = t; values = v ∷ [] })

abbrev delta : ℕ → ℕ → ℕ → Option Body
delta i t v = Some (record { inter = true; iteration = i; time = t; values = v ∷ [] })

unfoldable pub worked : List Case
worked =
    -- section A: the last frame's time is 2 * 105 - 100
    intra session None None (0x05 ∷ 0x64 ∷ 0x14 ∷ []) 5 100 (1510 ∷ [])
    ∷ inter session (full 5 100 1510) None (0x0A ∷ 0x02 ∷ []) 6 105 (1511 ∷ [])
    ∷ inter session (delta 6 105 1511) (full 5 100 1510) (0x00 ∷ 0x01 ∷ []) 7 110 (1510 ∷ [])
    -- the frame behind a rejected trial
    ∷ intra session None None (0x06 ∷ 0x65 ∷ 0x14 ∷ []) 6 101 (1510 ∷ [])
    -- no history
    ∷ inter session None None (0x0A ∷ 0x02 ∷ []) 1 5 (1 ∷ [])
    -- time 3 in an intra frame, offset -5; and the top
    ∷ inter session (full 0 3 0) None (0x09 ∷ 0x00 ∷ []) 1 0 (0 ∷ [])
    ∷ inter session (full 0 (2 ^ 64 - 1) 0) None (0x02 ∷ 0x00 ∷ []) 1 (2 ^ 64 - 1) (0 ∷ [])
    -- 2 * 10 - 30 is negative and 2 * last - 0 is over the top: last's time, then the offset
    ∷ inter session (delta 6 10 0) (full 5 30 0) (0x02 ∷ 0x00 ∷ []) 7 11 (0 ∷ [])
    ∷ inter session (delta 6 (2 ^ 64 - 1) 0) (full 5 0 0) (0x01 ∷ 0x00 ∷ []) 7 (2 ^ 64 - 2) (0 ∷ [])
    -- behind an intra frame the older time has no part, the older fields have; an intra frame's own fields have no older
    ∷ inter straight_on (full 5 100 20) (delta 4 90 15) (0x00 ∷ 0x00 ∷ []) 6 100 (25 ∷ [])
    ∷ inter straight_on (delta 5 100 20) (full 4 90 15) (0x00 ∷ 0x00 ∷ []) 6 110 (25 ∷ [])
    ∷ intra straight_on (full 5 100 20) (full 4 90 15) (0x07 ∷ 0x08 ∷ 0x02 ∷ []) 7 8 (21 ∷ [])
    -- the iteration wraps, and so does the sum of raw value and prediction
    ∷ inter session (full (2 ^ 32 - 1) 7 0) None (0x00 ∷ 0x01 ∷ []) 0 7 ((2 ^ 32 - 1) ∷ [])
    -- nine neighbours of encoding 6: a group of eight with a head, and one without
    ∷ slow (plain (replicate 9 6)) (0x81 ∷ 0x02 ∷ 0x04 ∷ 0x06 ∷ []) (1 ∷ 0 ∷ 0 ∷ 0 ∷ 0 ∷ 0 ∷ 0 ∷ 2 ∷ 3 ∷ [])
    -- a short group of 7 reads three values too, and is cut in one that it drops
    ∷ slow (plain (7 ∷ 7 ∷ [])) (0x83 ∷ 0x05 ∷ 0x3F ∷ []) (3 ∷ 5 ∷ [])
    ∷ ends (plain (7 ∷ 7 ∷ [])) (0x83 ∷ 0x05 ∷ [])
    -- a short group of 8 reads four values
    ∷ slow (plain (8 ∷ 8 ∷ [])) (0x0D ∷ 0x21 ∷ 0x23 ∷ 0x40 ∷ []) (2 ∷ 4660 ∷ [])
    -- predictor 5 adds the frame's own first field, which is `motor[0]` here
    ∷ intra (record { intra = 0 ∷ 5 ∷ []; inter = []; encodings = 1 ∷ 0 ∷ [] }) None None (0x05 ∷ 0x06 ∷ 0x0A ∷ 0x06 ∷ []) 5 6 (10 ∷ 13 ∷ [])
    -- slow frames have no history: 1 and 2 give 0, and 6 gives 1
    ∷ slow (record { intra = 1 ∷ 2 ∷ 6 ∷ []; inter = []; encodings = 1 ∷ 0 ∷ 1 ∷ [] }) (0x05 ∷ 0x02 ∷ 0x07 ∷ []) (5 ∷ 1 ∷ 8 ∷ [])
    -- neighbours of another encoding end a run: 6 is alone twice, and 1 and 9 are no groups
    ∷ slow (plain (6 ∷ 1 ∷ 6 ∷ 9 ∷ [])) (0x02 ∷ 0x05 ∷ 0x04 ∷ []) (1 ∷ 5 ∷ 2 ∷ 0 ∷ [])
    -- the fault met first decides: a bad head, with its numbers missing; data that ends before it
    ∷ faulty (plain (1 ∷ 6 ∷ 6 ∷ [])) (0x00 ∷ 0x04 ∷ [])
    ∷ ends (plain (1 ∷ 6 ∷ 6 ∷ [])) (0x80 ∷ [])
    ∷ []

-- what a case says of the definitions
abbrev pub Says : Case → Type 0
Says (intra f last older c i t vs) =
    intra_read (shape_of f) (rules_of f) (past_of last older) c
    ≡ got (main_frame Intra i t vs) (record { bytes = length c })
Says (inter f last older c i t vs) =
    inter_read (shape_of f) (rules_of f) (past_of last older) c
    ≡ got (main_frame Inter i t vs) (record { bytes = length c })
Says (slow f c vs) = slow_read (shape_of f) (rules_of f) c ≡ got (padded 62 vs) (record { bytes = length c })
Says (ends f c) = slow_read (shape_of f) (rules_of f) c ≡ cut
Says (faulty f c) = slow_read (shape_of f) (rules_of f) c ≡ corrupt

abbrev pub Hold : List Case → Type 0
Hold [] = Unit
Hold (c ∷ cs) = Says c × Hold cs
