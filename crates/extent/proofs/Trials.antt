-- What becomes of a trial, by what the code was answered for it.
use Prim.Native.Nat.{ℕ, ◌+◌, ◌-◌, ◌≤◌}
use mathlib.Core.Bool.{Bool, true, false, cond}
use mathlib.Core.List.{List}
use mathlib.Core.Logic.{◌⊎◌, ⊎_elim}
use mathlib.Core.Path.{◌≡◌, sym, ap, ◌∙◌}
use native.Mathlib.Omega.{arith}
use lib.ListN.{take, drop}
use lib.Seq.{drop-drop}
use Rattle.std.specs.Prelude.{Option, Result, Ok, Err}
use Rattle.plan.specs.declared.Definition.{Definition}
use Rattle.plan.specs.Plan.{Shape, fields, shape}
use Rattle.reader.specs.declared.Cursor.{Cursor}
use Rattle.reader.specs.declared.Fault.{Fault}
use Rattle.reader.specs.declared.Fault.TheVariants.{Cut, Corrupt}
use Rattle.reader.specs.declared.Kind.{Kind}
use Rattle.reader.specs.declared.Kind.TheVariants.{Gps, Home}
use Rattle.reader.specs.declared.RestorePoint.{RestorePoint}
use Rattle.reader.specs.Got.{Spent, Got, got, cut, corrupt, over, fault}
use Rattle.reader.specs.Place.{rest, on, point_of, place_of, read_at}
use Rattle.reader.proofs.Reading.{met, ok_parts}
use Rattle.reader.specs.Search.{ahead}
use Rattle.raws.specs.declared.Front.{Front}
use Rattle.raws.specs.declared.Raw.{Raw}
use Rattle.raws.specs.Place.{Lent, lent_at}
use Rattle.raws.specs.Place as rooms
use Rattle.raws.specs.Raws.{intra_raw, inter_raw}
use Rattle.event.specs.declared.Event.{Event}
use Rattle.extent.specs.declared.Found.{Found}
use Rattle.extent.specs.declared.Found.TheVariants.{Intra}
use Rattle.extent.specs.declared.Look.{Look}
use Rattle.extent.specs.declared.Seen.TheVariants.{Rejected, Cutoff, Accepted}
use Rattle.extent.specs.Extent.{Content, content, told, closed, bare, trial, judged}
use Rattle.extent.specs.Sight.{GoesOn}
use Rattle.extent.proofs.First.{from_point}

-- a reading at c that gives x, and q behind it
pub record Gives (c : Cursor) (g : Got Content) (x : Content) (q : Cursor) : Type 0 where
  pub spent : Spent
  pub is : g ≡ got x spent
  pub place : on c spent ≡ q

-- q lies no further back than c
pub forward : {c : Cursor} {g : Got Content} {x : Content} {q : Cursor} → Gives c g x q → c.at ≤ q.at
forward {c} {q = q} w = let z : c.at + w.spent.bytes ≡ q.at = ap (λ (p : Cursor). p.at) w.place in omega arith

-- ## Readings of fields

module _ (f : Found) (c : Cursor) where
  fields_ok : (g : Got Raw) (x : Front) (vs : List ℕ) → rooms.beside (Ok x) vs ≡ lent_at c g
      → Gives c (over (content f) g) (content f (record { iteration = x.iteration; time = x.time; fields = vs })) x.behind
  unfolding lent_at over
  fields_ok (got y u) x vs e =
      let front : x ≡ record { behind = on c u; iteration = y.iteration; time = y.time } = cc (ap (λ (l : Lent). l.front) e) in
      let fields : vs ≡ y.fields = ap (λ (l : Lent). l.fields) e in
      record {
        spent = u;
        is = λ i. got (content f (record { iteration = (sym front i).iteration; time = (sym front i).time; fields = sym fields i })) u;
        place = ap (λ (x : Front). x.behind) (sym front);
      }
  fields_ok cut x vs e = absurd (cc (ap (λ (l : Lent). l.front) e))
  fields_ok corrupt x vs e = absurd (cc (ap (λ (l : Lent). l.front) e))

  fields_err : (g : Got Raw) (d : Fault) (vs : List ℕ) → rooms.beside (Err d) vs ≡ lent_at c g → over (content f) g ≡ met d
  unfolding lent_at over
  fields_err (got y u) d vs e = absurd (cc (ap (λ (l : Lent). l.front) e))
  fields_err cut d vs e = let same : d ≡ Cut = cc (ap (λ (l : Lent). l.front) e) in rw same
  fields_err corrupt d vs e = let same : d ≡ Corrupt = cc (ap (λ (l : Lent). l.front) e) in rw same

  module _ (g : Got Raw) {r : Result Front Fault} {vs : List ℕ} (e : rooms.beside r vs ≡ lent_at c g) where
    pub raw_ok : {x : Front} → r ≡ Ok x → Gives c (over (content f) g) (content f (record { iteration = x.iteration; time = x.time; fields = vs })) x.behind
    raw_ok {x} h = fields_ok g x vs (ap (λ r. rooms.beside r vs) (sym h) ∙ e)

    pub raw_err : {d d' : Fault} → r ≡ Err d → d ≡ d' → over (content f) g ≡ met d'
    raw_err {d} h same = fields_err g d vs (ap (λ r. rooms.beside r vs) (sym h) ∙ e) ∙ ap met same

-- ## Readings of events

module _ (c : Cursor) where
  pub event_ok : (g : Got Event) {r : Result (Event × Cursor) Fault} {x : Event} {q : Cursor} → r ≡ read_at c g → r ≡ Ok (x, q)
      → Gives c (over told g) (told x) q
  unfolding read_at over
  event_ok (got y u) e h =
      let same = ok_parts (sym e ∙ h) in record { spent = u; is = ap (λ z. got (told z) u) same.0; place = same.1 }
  event_ok cut e h = absurd (cc)
  event_ok corrupt e h = absurd (cc)

  pub event_err : (g : Got Event) {r : Result (Event × Cursor) Fault} {d d' : Fault} → r ≡ read_at c g → r ≡ Err d → d ≡ d' → over told g ≡ met d'
  unfolding read_at over
  event_err (got y u) e h same = absurd (cc)
  event_err cut {d' = d'} e h same = let same : d' ≡ Cut = cc in rw same
  event_err corrupt {d' = d'} e h same = let same : d' ≡ Corrupt = cc in rw same

-- ## The ways through a trial

module _ (k : Kind) (s : List ℕ) (c : Cursor) {g : Got Content} where
  module _ {x : Content} {q : Cursor} {b : Bool} (w : Gives c g x q) (ends : b ≡ closed (rest q s)) where
    read_on : judged k (rest c s) g
        ≡ cond b (record { seen = Accepted x.frame (q.at - c.at); raw = x.raw }) (bare (Rejected k (ahead (rest c s))))
    unfolding judged
    read_on =
        let behind : drop w.spent.bytes (rest c s) ≡ rest q s = drop-drop w.spent.bytes c.at s ∙ ap (λ (p : Cursor). rest p s) w.place in
        let z : c.at + w.spent.bytes ≡ q.at = ap (λ (p : Cursor). p.at) w.place in
        let more : w.spent.bytes ≡ q.at - c.at = omega arith in
        ap (judged k (rest c s)) w.is
        ∙ ap (λ t. cond t (record { seen = Accepted x.frame w.spent.bytes; raw = x.raw }) (bare (Rejected k (ahead (rest c s)))))
        (ap closed behind ∙ sym ends)
        ∙ ap (λ n. cond b (record { seen = Accepted x.frame n; raw = x.raw }) (bare (Rejected k (ahead (rest c s))))) more

    pub accepted : {y : Look} → b ≡ true → y ≡ record { seen = Accepted x.frame (q.at - c.at); raw = x.raw } → y ≡ judged k (rest c s) g
    accepted is e = e ∙ sym (read_on ∙ rw is)

    pub not_closed : {p : RestorePoint} {y : Look} → b ≡ false → p ≡ point_of c → y ≡ bare (Rejected k (ahead (rest (place_of p) s)))
        → y ≡ judged k (rest c s) g
    not_closed open-end point e = e ∙ ap (λ j. bare (Rejected k j)) (from_point s c point) ∙ sym (read_on ∙ rw open-end)

  pub no_frame : {p : RestorePoint} {y : Look} → g ≡ corrupt → p ≡ point_of c → y ≡ bare (Rejected k (ahead (rest (place_of p) s))) → y ≡ judged k (rest c s) g
  unfolding judged
  no_frame h point e = e ∙ ap (λ j. bare (Rejected k j)) (from_point s c point) ∙ sym (ap (judged k (rest c s)) h)

pub cut_off : (k : Kind) (t : List ℕ) {g : Got Content} {y : Look} → g ≡ cut → y ≡ bare (Cutoff k) → y ≡ judged k t g
unfolding judged
cut_off k t h e = e ∙ sym (ap (judged k t) h)

-- a rejected trial, by what its search came to
pub rejected_by : (k : Kind) {j i : Option ℕ} {y : Look} → y ≡ bare (Rejected k j) → j ≡ i → y ≡ bare (Rejected k i)
rejected_by k e made = e ∙ ap (λ m. bare (Rejected k m)) made

-- ## By the kind

-- what is known of a kind, for a value that is this kind
pub of_kind : (h : Shape) (t : List ℕ) (j k : Kind) {y : Look} → k ≡ j → y ≡ judged k t (trial h j t) → y ≡ judged k t (trial h k t)
of_kind h t j k same e = e ∙ ap (λ i. judged k t (trial h i t)) (sym same)

-- G and H are corrupt at once
pub none_of : (h : Shape) (t : List ℕ) {k : Kind} → (k ≡ Gps) ⊎ (k ≡ Home) → trial h k t ≡ corrupt
unfolding trial fault
none_of h t same = ⊎_elim (λ e. ap (λ k. trial h k t) e) (λ e. ap (λ k. trial h k t) e) same

pub as_kind : (h : Shape) (t : List ℕ) {j k : Kind} {y : Look} → k ≡ j → y ≡ judged j t (trial h j t) → y ≡ judged k t (trial h k t)
as_kind h t same e = e ∙ ap (λ i. judged i t (trial h i t)) (sym same)

-- a reading behind a kind byte goes on no further back
pub goes_on : (c : Cursor) (g : Got Raw) {x : Result Front Fault} {vs : List ℕ} → rooms.beside x vs ≡ lent_at c g → GoesOn c x
goes_on c g e = record { forward = λ q h. forward (raw_ok Intra c g e h) }

-- the frames of a definition: as the code counts their fields, and as the meaning reads them
module _ (d : Definition) (s : List ℕ) (c : Cursor) {x : Lent} {n : ℕ} where
  pub intra_of : n ≡ fields d.main → x ≡ lent_at c (intra_raw (take n d.main.intra_encodings) (rest c s))
      → x ≡ lent_at c (intra_raw (shape d).intra (rest c s))
  unfolding shape
  intra_of count e = e ∙ ap (λ n. lent_at c (intra_raw (take n d.main.intra_encodings) (rest c s))) count

  pub inter_of : n ≡ fields d.main → x ≡ lent_at c (inter_raw (take n d.main.inter_encodings) (rest c s))
      → x ≡ lent_at c (inter_raw (shape d).inter (rest c s))
  unfolding shape
  inter_of count e = e ∙ ap (λ n. lent_at c (inter_raw (take n d.main.inter_encodings) (rest c s))) count
