-- Fields read by lists of their own: numbers in 62 rooms make the values that the numbers make, and what the code answers is what is read.
use Rattle.std.proofs.Common.{◌≡◌, ℕ, ◌<◌, ◌≤◌, Bool, true, false, cond, not, List, length, get_or, take, replicate, sym, Option}
use Rattle.std.proofs.Common.{ap, ◌∙◌, arith, length-take, Result, Ok, Err, IsErrAnd}
use Rattle.std.proofs.lemmas.Result.{err_from_is_err_and}
use lib.Seq.{sets-eq, take-append-le}
use borrow.Author.Tests.{not-true, not-false}
use Rattle.plan.specs.Owes.{AreSoundOwes}
use Rattle.plan.proofs.Sound.{fields_few}
use Rattle.raws.specs.declared.Raw.{Raw}
use Rattle.raws.specs.Groups.{numbers}
use Rattle.raws.specs.Owes.{MainFieldsOwes}
use Rattle.raws.specs.Raws.{raw}
use Rattle.raws.proofs.Counted.{numbers_count}
use Rattle.raws.proofs.Turns.{bytes_of}
use Rattle.reader.specs.declared.Cursor.{Cursor}
use Rattle.reader.specs.declared.Fault.{Fault}
use Rattle.reader.specs.declared.Fault.TheVariants as fault
use Rattle.reader.specs.Got.{Got, got, cut, corrupt, over}
use Rattle.reader.specs.Place.{rest, read_at, padded}
use Rattle.reader.proofs.Every.{Counts, Every, drop_each}
use Rattle.reader.proofs.Reading.{ok_parts}
use Rattle.frame.specs.declared.fields.Context.{Context}
use Rattle.frame.specs.declared.fields.FieldValues.{FieldValues}
use Rattle.frame.specs.declared.fields.Unread.{Unread}
use Rattle.frame.specs.declared.fields.Unread.TheVariants.{Unsound}
use Rattle.frame.specs.Earlier.{laid}
use Rattle.frame.specs.Lists.{field_values, fields_read, fields_in, last_in, older_in, unread, fields_at, by_lists}
use Rattle.frame.specs.Owes.{ReadFieldsOwes}
use Rattle.frame.specs.Values.{Fields, values_of}

-- ## Values

-- values are made of no more numbers than there are predictors, so that zeros behind these make no difference
pub padded_values : (f : Fields) (last older : Option (List ℕ)) (vs : List ℕ) → (length f.predictors ≤ length vs) × (length vs ≤ 62)
    → values_of f last older (padded 62 vs) ≡ values_of f last older vs
unfolding values_of
padded_values f last older vs h =
    let n : ℕ = length f.predictors in
    let front : take n (padded 62 vs) ≡ take n vs = ap (take n) (sets-eq vs (replicate 62 0) 0 (omega arith)) ∙ take-append-le n vs _ h.0 in
    rw front

-- ## What is read

-- fields at a place, from the reading of their numbers
abbrev made : Fields → (last older : Option (List ℕ)) → Cursor → Got (List ℕ) → Result (FieldValues × Cursor) Unread
made f last older from g = fields_at from (over (λ raws. field_values raws (values_of f last older raws)) g)

-- the code has the numbers in their rooms, and makes the values of those
module _ (f : Fields) (last older : Option (List ℕ)) (from : Cursor) where
  made_got : (g : Got (List ℕ)) {x : Raw} {q : Cursor} {vs : List ℕ} → Ok (x, q) ≡ read_at from (over (raw 0 0) g) → vs ≡ laid f last older x.fields
      → Every (Counts (length f.predictors)) g → length f.predictors ≤ 62
      → Ok (record { raws = x.fields; values = vs }, q) ≡ made f last older from g
  unfolding read_at over raw
  made_got (got ws u) {x} {q} e v count few =
      let same = ok_parts e in
      let rooms = ap (λ (y : Raw). y.fields) same.0 in
      let values = v ∙ ap (laid f last older) rooms ∙ ap (padded 62) (padded_values f last older ws (omega (arith, count))) in
      λ i. Ok (record { raws = rooms i; values = values i }, same.1 i)
  made_got cut e v count few = cc
  made_got corrupt e v count few = cc

  made_fault : (g : Got (List ℕ)) {why : Fault} → Err why ≡ read_at from (over (raw 0 0) g) → Err (unread why) ≡ made f last older from g
  unfolding read_at over
  made_fault (got ws u) e = cc
  made_fault cut {why} e = let same : why ≡ fault.Cut = cc in ap (λ d. Err (unread d)) same
  made_fault corrupt {why} e = let same : why ≡ fault.Corrupt = cc in ap (λ d. Err (unread d)) same

-- ## The answers of `read_fields`

-- fields that are sound have rooms
pub sound_few : (n : ℕ) (es ps : List ℕ) (x : Context) {b : Bool} → AreSoundOwes n ps es x.motor x.around.numbers b → not b ≡ false → n ≤ 62
sound_few n es ps x {b} asked passed = fields_few 62 x.around.numbers x.motor n (take n ps) (take n es) (sym asked ∙ not-false b passed)

module _ (n : ℕ) (es ps : List ℕ) (x : Context) (s : List ℕ) (from : Cursor) where
  abbrev own : Fields
  own = fields_in (take n es) (take n ps) x

  abbrev read : Got (List ℕ)
  read = numbers (take n es) (rest from s)

  module _ {b : Bool} (asked : AreSoundOwes n ps es x.motor x.around.numbers b) where
    decided : (k : Bool) → b ≡ k → ReadFieldsOwes n es ps x s from (cond k (made own (last_in x) (older_in x) from read) (Err Unsound))
    unfolding by_lists fields_read
    decided k is = ap (λ t. cond t (made own (last_in x) (older_in x) from read) (Err Unsound)) (sym is ∙ asked)

    -- what is not sound is refused
    pub fields_refused : not b ≡ true → ReadFieldsOwes n es ps x s from (Err Unsound)
    fields_refused h = decided false (not-true b h)

    -- what is sound is read
    module _ (passed : not b ≡ false) where
      sound_are : {t : Result (FieldValues × Cursor) Unread} → t ≡ made own (last_in x) (older_in x) from read → ReadFieldsOwes n es ps x s from t
      sound_are e = e ∙ decided true (not-false b passed)

      module _ {r : Result (Raw × Cursor) Fault} (e : MainFieldsOwes n es s from 0 0 r) where
        pub fields_got : {y : Raw} {q : Cursor} {vs : List ℕ} → r ≡ Ok (y, q) → vs ≡ laid own (last_in x) (older_in x) y.fields
            → (length es ≡ 62) × (length ps ≡ 62) → ((j : ℕ) → get_or s j 0 < 256)
            → ReadFieldsOwes n es ps x s from (Ok (record { raws = y.fields; values = vs }, q))
        fields_got is v h bytes =
            let alike : length (take n es) ≡ length (take n ps) = omega (arith, length-take n es, length-take n ps) in
            let count : Every (Counts (length (take n es))) read =
            (numbers_count (take n es)).every (rest from s) (drop_each (λ b. b < 256) from.at s (bytes_of s bytes)) in
            sound_are (made_got own (last_in x) (older_in x) from read (sym is ∙ e) v (rw alike at count)
            (omega (arith, length-take n ps, sound_few n es ps x asked passed)))

        pub fields_stopped : {why : Fault} {t : Result (FieldValues × Cursor) Unread} → r ≡ Err why → IsErrAnd t (λ d. d ≡ unread why)
            → ReadFieldsOwes n es ps x s from t
        fields_stopped {t = t} is f =
            let stopped = err_from_is_err_and t f in
            sound_are (stopped.1 ∙ ap Err stopped.2 ∙ made_fault own (last_in x) (older_in x) from read (sym is ∙ e))
