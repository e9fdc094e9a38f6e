-- What each public function of this crate owes for a section and a place in it.
use Rattle.std.specs.Prelude.{ℕ, cond, List, ◌≡◌, eqb, take, replicate, Option, Some, None, Result}
use Rattle.plan.specs.declared.Definition.{Definition}
use Rattle.plan.specs.Plan.{shape}
use Rattle.reader.specs.declared.Cursor.{Cursor}
use Rattle.reader.specs.declared.Fault.{Fault}
use Rattle.reader.specs.Got.{over}
use Rattle.reader.specs.Place.{rest, read_at}
use Rattle.raws.specs.declared.Front.{Front}
use Rattle.raws.specs.declared.Raw.{Raw}
use Rattle.raws.specs.Groups.{numbers}
use Rattle.raws.specs.Place.{lent_at, beside}
use Rattle.raws.specs.Raws.{raw, intra_raw, inter_raw, slow_raw}

abbrev pub ClearOwes : (after : List ℕ) → Type 0
ClearOwes after = after ≡ replicate 62 0

-- the fields alone, behind an iteration and a time that were read before
abbrev pub MainFieldsOwes : (n : ℕ) → (encodings s : List ℕ) → Cursor → (iteration time : ℕ) → Result (Raw × Cursor) Fault → Type 0
MainFieldsOwes n es s from i t r = r ≡ read_at from (over (raw i t) (numbers (take n es) (rest from s)))

-- a frame of the first n encodings, behind its kind byte; the fields' numbers go to lent rooms
abbrev pub IntraIntoOwes : (n : ℕ) → (encodings s : List ℕ) → Cursor → Result Front Fault → (after : List ℕ) → Type 0
IntraIntoOwes n es s from r after = beside r after ≡ lent_at from (intra_raw (take n es) (rest from s))

abbrev pub InterIntoOwes : (n : ℕ) → (encodings s : List ℕ) → Cursor → Result Front Fault → (after : List ℕ) → Type 0
InterIntoOwes n es s from r after = beside r after ≡ lent_at from (inter_raw (take n es) (rest from s))

-- no fields, no slow frames
abbrev pub some_of : (n : ℕ) → (encodings : List ℕ) → Option (List ℕ)
some_of n es = cond (eqb n 0) None (Some (take n es))

abbrev pub SlowIntoOwes : (n : ℕ) → (encodings s : List ℕ) → Cursor → Result Front Fault → (after : List ℕ) → Type 0
SlowIntoOwes n es s from r after = beside r after ≡ lent_at from (slow_raw (some_of n es) (rest from s))

-- a frame of a definition
abbrev pub IntraOwes : Definition → List ℕ → Cursor → Result (Raw × Cursor) Fault → Type 0
IntraOwes d s from r = r ≡ read_at from (intra_raw (shape d).intra (rest from s))

abbrev pub InterOwes : Definition → List ℕ → Cursor → Result (Raw × Cursor) Fault → Type 0
InterOwes d s from r = r ≡ read_at from (inter_raw (shape d).inter (rest from s))

abbrev pub SlowOwes : Definition → List ℕ → Cursor → Result (Raw × Cursor) Fault → Type 0
SlowOwes d s from r = r ≡ read_at from (slow_raw (shape d).slow (rest from s))
