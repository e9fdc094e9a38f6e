-- What the code answers in lent rooms for a reading of a frame at a place: the numbers of the fields stand there, and zeros where there are none.
use Rattle.std.specs.Prelude.{ℕ, List, [], Result, Ok, Err}
use Rattle.reader.specs.declared.Cursor.{Cursor}
use Rattle.reader.specs.declared.Fault.{Fault}
use Rattle.reader.specs.declared.Fault.TheVariants.{Cut, Corrupt}
use Rattle.reader.specs.Got.{Got, got, cut, corrupt}
use Rattle.reader.specs.Place.{on, padded}
use Rattle.raws.specs.declared.Front.{Front}
use Rattle.raws.specs.declared.Raw.{Raw}

-- what is returned, and the numbers that then stand in the rooms
pub record Lent : Type 0 where
  pub front : Result Front Fault
  pub fields : List ℕ

abbrev pub beside : Result Front Fault → (fields : List ℕ) → Lent
beside r vs = record { front = r; fields = vs }

-- why there is no frame, and 62 zeros
abbrev pub stopped : Fault → Lent
stopped d = beside (Err d) (padded 62 [])

unfoldable pub lent_at : Cursor → Got Raw → Lent
lent_at c (got x u) = beside (Ok (record { behind = on c u; iteration = x.iteration; time = x.time })) x.fields
lent_at c cut = stopped Cut
lent_at c corrupt = stopped Corrupt
