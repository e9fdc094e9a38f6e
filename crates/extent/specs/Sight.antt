-- How the code goes about it: when a flag is right, looks with numbers in lent rooms, and trials by their readings.
-- No part of the meaning: it is cited by contracts of inner functions.
use Rattle.std.specs.Prelude.{ℕ, ◌≤◌, Bool, true, List, ◌≡◌, drop, None, Result, Ok}
use Rattle.raws.specs.declared.Front.{Front}
use Rattle.raws.specs.declared.Raw.{Raw}
use Rattle.raws.specs.Place.{lent_at}
use Rattle.raws.specs.Place as raws
use Rattle.reader.specs.declared.Cursor.{Cursor}
use Rattle.reader.specs.declared.Fault.{Fault}
use Rattle.reader.specs.declared.Kind.{Kind}
use Rattle.reader.specs.Got.{Got, over}
use Rattle.reader.specs.Place.{rest}
use Rattle.reader.specs.Search.{ahead}
use Rattle.extent.specs.declared.Found.{Found}
use Rattle.extent.specs.declared.Glance.{Glance}
use Rattle.extent.specs.declared.Look.{Look}
use Rattle.extent.specs.Extent.{content, judged}

-- the flag is right: from the place on nothing is left to search for
pub record Barren (barren : Bool) (s : List ℕ) (place : ℕ) : Type 0 where
  pub none_left : barren ≡ true → ahead (drop place s) ≡ None

-- a look whose fields' numbers stand beside it
abbrev pub beside : Glance → (fields : List ℕ) → Look
beside g vs = record { seen = g.seen; raw = record { iteration = g.iteration; time = g.time; fields = vs } }

-- a reading goes on no further back than it began
pub record GoesOn (from : Cursor) (x : Result Front Fault) : Type 0 where
  pub forward : (q : Front) → x ≡ Ok q → from.at ≤ q.behind.at

-- what becomes of a trial, whatever the reading behind its kind byte is a reading of
abbrev pub Judges : Result Front Fault → Kind → Found → List ℕ → Cursor → (fields : List ℕ) → Glance → (after : List ℕ) → Type 0
Judges x k f s from fields r after = (g : Got Raw) → raws.beside x fields ≡ lent_at from g → beside r after ≡ judged k (rest from s) (over (content f) g)
