-- The cases that document 01 marks with a star under "Sessions to reproduce", as one list under one statement: the walk, predictors and encodings.
use Rattle.std.specs.Prelude.{ℕ, Bool, true, false, List, [], ◌∷◌, ◌++◌, ◌≡◌, ℤ, pos, neg_ℤ, length, Some}
use Rattle.bits.specs.Pattern.{pattern}
use Rattle.items.specs.Text.{ascii}
use Rattle.reader.specs.declared.Kind.TheVariants.{Intra}
use Rattle.reader.specs.Got.{got, Reader}
use Rattle.decode.specs.TaggedVariable.{encoding6}
use Rattle.tagged.specs.Tagged16.{encoding8}
use Rattle.tagged.specs.Tagged32.{encoding7}
use Rattle.predictor.specs.declared.Surroundings.{Surroundings}
use Rattle.predictor.specs.Predictors.{prediction}
use Rattle.section.specs.declared.Ending.TheVariants.{Done, Out, Cut}
use Rattle.section.specs.declared.Tally.{Tally}
use Rattle.section.specs.Answers.{Paper}
use Rattle.cases.specs.Lists.{lists_a}
use Rattle.cases.specs.Sessions.{session, I, P, E, done, out_of_data, cut, end◌at◌main◌event◌slow◌tried◌rejected◌, section_a}

pub data Case : Type 0 where
  -- a log with document 01's lists and this section: a line for each call, and the tally behind the last
  walk : (section : List ℕ) → List Paper → Tally → Case
  -- a predictor, signed or not: the last value, the older one, and the prediction
  predictor : ℕ → (signed : Bool) → (last older : ℤ) → ℤ → Case
  -- a group: the reader, the bytes, and the numbers that all of them hold
  group : Reader (List ℤ) → List ℕ → List ℤ → Case

abbrev minus : ℕ → ℤ
minus n = neg_ℤ (pos n)

abbrev signed : Bool
signed = true

abbrev unsigned : Bool
unsigned = false

unfoldable pub starred : List Case
starred =
    -- section A is printed without a star, and stands in the list all the same
    walk section_a (I (0 ∷ 5 ∷ 100 ∷ 1510 ∷ []) ∷ P (4 ∷ 6 ∷ 105 ∷ 1511 ∷ []) ∷ P (7 ∷ 7 ∷ 110 ∷ 1510 ∷ []) ∷ E (10 ∷ 255 ∷ 0 ∷ 0 ∷ []) ∷ done ∷ [])
    (end Done at 23 main 3 event 1 slow 0 tried 4 rejected 0)
    -- the first trial is rejected
    ∷ walk (0x49 ∷ 0x05 ∷ 0x64 ∷ 0x14 ∷ 0x58 ∷ 0x49 ∷ 0x06 ∷ 0x65 ∷ 0x14 ∷ [])
    (I (5 ∷ 6 ∷ 101 ∷ 1510 ∷ []) ∷ out_of_data ∷ []) (end Out at 9 main 1 event 0 slow 0 tried 2 rejected 1)
    ∷ walk (0x58 ∷ 0x50 ∷ 0x0A ∷ 0x02 ∷ []) (P (1 ∷ 1 ∷ 5 ∷ 1 ∷ []) ∷ out_of_data ∷ []) (end Out at 4 main 1 event 0 slow 0 tried 1 rejected 0)
    -- P is passed over, and I is cut
    ∷ walk (0x58 ∷ 0x50 ∷ 0x0A ∷ 0x02 ∷ 0x49 ∷ []) (cut 0x49 4 ∷ []) (end (Cut Intra 4) at 5 main 0 event 0 slow 0 tried 1 rejected 0)
    ∷ predictor 2 unsigned (pos 10) (pos 30) (pos 10)
    ∷ predictor 2 signed (pos 10) (pos 30) (minus 10)
    ∷ predictor 2 signed (pos 2147483647) (minus 1) (pos 2147483647)
    ∷ predictor 3 signed (minus 7) (pos 0) (minus 3)
    ∷ predictor 3 unsigned (pos 7) (pos 0) (pos 3)
    ∷ group (encoding6 3) (0x05 ∷ 0x02 ∷ 0x03 ∷ []) (pos 1 ∷ pos 0 ∷ minus 2 ∷ [])
    ∷ group encoding7 (0x1B ∷ []) (pos 1 ∷ minus 2 ∷ minus 1 ∷ [])
    ∷ group encoding7 (0x47 ∷ 0x8F ∷ []) (pos 7 ∷ minus 8 ∷ minus 1 ∷ [])
    ∷ group encoding8 (0x0D ∷ 0x21 ∷ 0x23 ∷ 0x40 ∷ []) (pos 2 ∷ pos 4660 ∷ pos 0 ∷ pos 0 ∷ [])
    ∷ []

-- what a case says of the definitions: a prediction is so whatever else a predictor may look at
abbrev pub Says : Case → Type 0
Says (walk section lines tally) = session (ascii lists_a ++ section) ≡ record { lines = lines; tally = tally }
Says (predictor p sign last older value) =
    (around : Surroundings) (motor : ℕ) → prediction sign around (Some (pattern last)) (Some (pattern older)) motor p ≡ pattern value
Says (group reader section values) = reader section ≡ got values (record { bytes = length section })

abbrev pub Hold : List Case → Type 0
Hold [] = Unit
Hold (c ∷ cs) = Says c × Hold cs
