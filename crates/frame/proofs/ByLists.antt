-- Whole frames are read by lists too: what stands before the fields, and then the fields by the lists of the definition.
-- Of bytes, as a section is: then each field has its number.
use Rattle.std.proofs.Common.{◌≡◌, ℕ, ◌<◌, ◌≤◌, List, length, drop, sym, refl, ap, ◌∙◌, arith, Option, None, Some}
use Rattle.decode.specs.Variable.{encoding0, encoding1}
use Rattle.plan.specs.Plan.{Shape, Rules}
use Rattle.raws.specs.Groups.{patterned, numbers}
use Rattle.raws.specs.Raws.{raw, timed, intra_raw, inter_raw, slow_raw}
use Rattle.raws.proofs.Counted.{numbers_count}
use Rattle.reader.specs.Got.{Got, got, cut, corrupt, over, after, Reader, onward, ◌>>=◌, give}
use Rattle.reader.specs.Place.{padded}
use Rattle.reader.proofs.Every.{Bytes, Every, Counts, drop_each}
use Rattle.reader.proofs.Reading.{over_over, over_after, over_map, onward_give}
use Rattle.frame.specs.declared.MainFrame.{MainFrame}
use Rattle.frame.specs.declared.Mark.TheVariants.{Intra, Inter}
use Rattle.frame.specs.Frames.{or_none, values_in, intra_fields, inter_fields, slow_fields, intra_frame, inter_frame, slow_values}
use Rattle.frame.specs.Frames.{intra_read, inter_read, slow_read}
use Rattle.frame.specs.Lists.{field_values, fields_read}
use Rattle.frame.specs.Past.{Past}
use Rattle.frame.specs.Time.{iteration_after, time_after}
use Rattle.frame.specs.Values.{Fields, values_of}
use Rattle.frame.proofs.Lists.{padded_values}

-- ## Readings

-- the value is changed behind what is read first
module _ {A B C : Type 0} (f : B → C) (k : A → Reader B) (l : A → Reader C) (same : (a : A) (d : List ℕ) → Bytes d → over f (k a d) ≡ l a d) where
  onward_over : (c : List ℕ) → Bytes c → (g : Got A) → over f (onward k c g) ≡ onward l c g
  unfolding onward
  onward_over c b (got a u) =
      over_after f u (k a (drop u.bytes c)) ∙ ap (after u) (same a (drop u.bytes c) (drop_each (λ x. x < 256) u.bytes c b))
  onward_over c b cut = unfold over in refl
  onward_over c b corrupt = unfold over in refl

  then_over : (r : Reader A) (c : List ℕ) → Bytes c → over f (◌>>=◌ r k c) ≡ ◌>>=◌ r l c
  unfolding ◌>>=◌
  then_over r c b = onward_over c b (r c)

-- a frame of fields, in whatever it holds their values
module _ {A : Type 0} (f : Fields) (last older : Option (List ℕ)) (frame : List ℕ → A)
    (alike : length f.predictors ≡ length f.encodings) (few : length f.encodings ≤ 62) where
  made_of : (g : Got (List ℕ)) → Every (Counts (length f.encodings)) g
      → over (λ vs. frame (padded 62 (values_of f last older (padded 62 vs)))) g ≡ over (λ vs. frame (padded 62 (values_of f last older vs))) g
  unfolding over
  made_of (got vs u) count = ap (λ ws. got (frame (padded 62 ws)) u) (padded_values f last older vs (omega (arith, count)))
  made_of cut count = refl
  made_of corrupt count = refl

  by_lists : (c : List ℕ) → Bytes c
      → over (λ vs. frame (padded 62 (values_of f last older (padded 62 vs)))) (numbers f.encodings c)
      ≡ ◌>>=◌ (fields_read f last older) (λ x. give (frame x.values)) c
  unfolding ◌>>=◌ fields_read
  by_lists c b =
      let read = numbers f.encodings c in
      made_of read ((numbers_count f.encodings).every c b)
      ∙ sym (onward_give (λ x. frame x.values) c (fields_read f last older c)
      ∙ over_over (λ vs. field_values vs (values_of f last older vs)) (λ x. frame x.values) read)

-- ## Frames

-- intra: the iteration and the time; then the fields, with the values of the last frame and no older ones
abbrev pub intra_by_lists : Shape → Rules → Past → Reader MainFrame
intra_by_lists h r p = do
  i ← encoding1
  t ← encoding1
  x ← fields_read (intra_fields h r) (values_in p.last) None
  give (record { mark = Intra; iteration = i; time = t; values = x.values })

-- inter: the time's offset; then the fields, with the values of both frames
abbrev pub inter_by_lists : Shape → Rules → Past → Reader MainFrame
inter_by_lists h r p = do
  t ← patterned encoding0
  x ← fields_read (inter_fields h r p) (values_in p.last) (values_in p.older)
  give (record { mark = Inter; iteration = iteration_after r p; time = time_after p t; values = x.values })

-- slow: the fields alone, with no history
abbrev pub slow_by_lists : Shape → Rules → Reader (List ℕ)
slow_by_lists h r = do
  x ← fields_read (slow_fields h r) None None
  give x.values

module _ (h : Shape) (r : Rules) (p : Past) where
  pub intra_by_lists_law : length r.intra ≡ length h.intra → length h.intra ≤ 62 → (c : List ℕ) → Bytes c → intra_read h r p c ≡ intra_by_lists h r p c
  unfolding intra_read intra_raw timed raw intra_frame intra_fields
  intra_by_lists_law alike few c b =
      then_over (intra_frame h r p) (timed h.intra) _
      (λ i d bd.
      then_over (intra_frame h r p) _ _
      (λ t e be.
      over_map (intra_frame h r p) (raw i t) (numbers h.intra) e
      ∙ by_lists (intra_fields h r) (values_in p.last) None (λ vs. record { mark = Intra; iteration = i; time = t; values = vs }) alike few e be)
      encoding1 d bd)
      encoding1 c b

  pub inter_by_lists_law : length r.inter ≡ length h.inter → length h.inter ≤ 62 → (c : List ℕ) → Bytes c → inter_read h r p c ≡ inter_by_lists h r p c
  unfolding inter_read inter_raw raw inter_frame inter_fields
  inter_by_lists_law alike few c b =
      then_over (inter_frame h r p) _ _
      (λ t d bd.
      over_map (inter_frame h r p) (raw 0 t) (numbers h.inter) d
      ∙ by_lists (inter_fields h r p) (values_in p.last) (values_in p.older)
      (λ vs. record { mark = Inter; iteration = iteration_after r p; time = time_after p t; values = vs }) alike few d bd)
      (patterned encoding0) c b

pub slow_by_lists_law : (h : Shape) (r : Rules) (es : List ℕ) → h.slow ≡ Some es → length r.slow ≡ length es → length es ≤ 62 → (c : List ℕ) → Bytes c
    → slow_read h r c ≡ slow_by_lists h r c
unfolding slow_read slow_raw raw slow_values slow_fields
slow_by_lists_law h r es e alike few c b =
    let codes : or_none h.slow ≡ es = ap or_none e in
    ap (λ l. over (slow_values h r) (slow_raw l c)) e
    ∙ over_map (slow_values h r) (raw 0 0) (numbers es) c
    ∙ ap (λ l. over (λ vs. slow_values h r (raw 0 0 vs)) (numbers l c)) (sym codes)
    ∙ by_lists (slow_fields h r) None None (λ vs. vs) (rw codes alike) (rw codes few) c b
