-- How the code goes about it: runs are found one at a time, a field that stands in no group is read by itself,
-- and rooms are emptied, or make a value, behind the reading.
-- No part of the meaning: only contracts of private functions cite it.
use Rattle.std.specs.Prelude.{ℕ, cond, List, [], ◌∷◌, eqb, Result, Ok, Err}
use Rattle.reader.specs.declared.Cursor.{Cursor}
use Rattle.reader.specs.declared.Fault.{Fault}
use Rattle.reader.specs.Got.{Reader, fault}
use Rattle.decode.specs.Variable.{encoding0, encoding1, encoding3, encoding9}
use Rattle.raws.specs.declared.Front.{Front}
use Rattle.raws.specs.declared.Raw.{Raw}
use Rattle.raws.specs.Groups.{Run, patterned}
use Rattle.raws.specs.Place.{Lent, beside, stopped}

-- the fields of the first run
unfoldable pub first_run : List Run → ℕ
first_run [] = 0
first_run (r ∷ rs) = r.fields

-- the number of a field that stands in no group, by its encoding
unfoldable pub single : ℕ → Reader ℕ
single e =
    cond (eqb e 0) (patterned encoding0)
    (cond (eqb e 1) encoding1
    (cond (eqb e 3) (patterned encoding3)
    (cond (eqb e 9) encoding9 fault)))

-- rooms of a reading that stopped are emptied behind it: what they held before says nothing
abbrev pub settled : Result Front Fault → (fields : List ℕ) → Lent
settled (Ok f) vs = beside (Ok f) vs
settled (Err d) vs = stopped d

-- as a value
abbrev pub raw_of : Result Front Fault → (fields : List ℕ) → Result (Raw × Cursor) Fault
raw_of (Ok f) vs = Ok (record { iteration = f.iteration; time = f.time; fields = vs }, f.behind)
raw_of (Err d) vs = Err d
