-- Whole frames from their parts: the lists of a definition cut at the field count, and what the frames before leave.
use Rattle.std.proofs.Common.{option_map, ◌≡◌, ℕ, zero, suc, ◌+◌, min, cond, eqb, List, length}
use Rattle.std.proofs.Common.{take, sym, refl, ap, ◌∙◌, ap₂, arith, length-take, ne_eqb, Option, None, Some}
use Rattle.bits.specs.Pattern.{wrap}
use Rattle.plan.specs.declared.Definition.{Definition}
use Rattle.plan.specs.Plan.{shape, rules}
use Rattle.plan.proofs.Rooms.{SlowRooms, front_all}
use Rattle.predictor.specs.declared.Surroundings.{Surroundings}
use Rattle.predictor.specs.Predictors.{or_zero}
use Rattle.raws.specs.declared.Raw.{Raw}
use Rattle.frame.specs.declared.Head.{Head}
use Rattle.frame.specs.declared.MainFrame.{MainFrame}
use Rattle.frame.specs.declared.Mark.TheVariants.{Intra, Inter}
use Rattle.frame.specs.Earlier.{fields_by, laid}
use Rattle.frame.specs.Frames.{around, or_none, values_in, intra_fields, inter_fields, slow_fields, intra_frame, inter_frame, slow_values}
use Rattle.frame.specs.Owes.{HeadOwes, IntraOwes, InterOwes, SlowOwes}
use Rattle.frame.specs.Parts.{frame_of}
use Rattle.frame.specs.Past.{past_of, body_of}
use Rattle.frame.specs.Time.{skipped_after, iteration_after, time_after}
use Rattle.frame.specs.Values.{Fields}

-- ## Fields

pub fields_same : (a : Surroundings) {ps ps' es es' : List ℕ} {m m' : ℕ} → ps ≡ ps' → es ≡ es' → m ≡ m' → fields_by ps es m a ≡ fields_by ps' es' m' a
fields_same a p e f = λ i. fields_by (p i) (e i) (f i) a

-- ## Main frames

-- by the lists and the histories that the code has
pub intra_is : (d : Definition) (last : MainFrame) (x : Raw) {f : Fields} {l o : Option (List ℕ)} {vs : List ℕ}
    → vs ≡ laid f l o x.fields → f ≡ intra_fields (shape d) (rules d) → l ≡ values_in (body_of last) → o ≡ None
    → IntraOwes d last x (record { mark = Intra; iteration = x.iteration; time = x.time; values = vs })
unfolding intra_frame
intra_is d last x v e f g older =
    let values = v ∙ (λ i. laid (e i) (f i) (g i) x.fields) in
    λ i. record { mark = Intra; iteration = x.iteration; time = x.time; values = values i }

-- an inter frame's iteration is predictor 6 of the last one's
abbrev pub counted : (skipped : ℕ) → MainFrame → ℕ
counted n last = wrap (n + 1 + or_zero (option_map (λ b. b.iteration) (body_of last)))

pub inter_is : (d : Definition) (last older : MainFrame) (x : Raw) {f : Fields} {l o : Option (List ℕ)} {n m : ℕ} {vs : List ℕ}
    → vs ≡ laid f l o x.fields → f ≡ inter_fields (shape d) (rules d) (past_of (body_of last) (body_of older))
    → l ≡ values_in (body_of last) → o ≡ values_in (body_of older)
    → n ≡ counted 0 last → m ≡ time_after (past_of (body_of last) (body_of older)) x.time
    → InterOwes d last older x (record { mark = Inter; iteration = n; time = m; values = vs })
unfolding inter_frame iteration_after skipped_after
inter_is d last older x v e f g n m =
    let values = v ∙ (λ i. laid (e i) (f i) (g i) x.fields) in
    λ i. record { mark = Inter; iteration = n i; time = m i; values = values i }

-- ## Slow frames

-- without slow frames there are no fields either
slow_encodings_are : (d : Definition) → or_none (shape d).slow ≡ take d.slow.n d.slow.encodings
unfolding shape
slow_encodings_are d = either d.slow.n d.slow.encodings
  where
    either : (n : ℕ) (l : List ℕ) → or_none (cond (eqb n 0) None (Some (take n l))) ≡ take n l
    either zero l = refl
    either (suc n) l = rw (ne_eqb (suc n) 0 (λ e. omega arith))

pub slow_is : (d : Definition) (x : Raw) {k : ℕ} {r : List ℕ} → k ≡ min d.slow.n 16
    → r ≡ laid (fields_by (take k d.slow.predictors) (take k d.slow.encodings) k (around (rules d) 0)) None None x.fields
    → SlowRooms d.slow → SlowOwes d x r
unfolding slow_values slow_fields rules
slow_is d x {k} h v rooms =
    let n = d.slow.n in
    let ps = d.slow.predictors in
    let es = d.slow.encodings in
    let long : k ≡ length (take n ps) = omega (arith, length-take n ps, rooms.slow_predictors) in
    let codes = front_all k n 16 es h rooms.slow_encodings ∙ sym (slow_encodings_are d) in
    let same = fields_same (around (rules d) 0) (front_all k n 16 ps h rooms.slow_predictors) codes long in
    v ∙ ap (λ g. laid g None None x.fields) same

-- ## By value

-- a frame is its head and its values
whole : (f : MainFrame) {h : Head} → HeadOwes f h → frame_of h f.values ≡ f
whole f e = ap (λ h. frame_of h f.values) e

pub intra_whole : (d : Definition) (last : MainFrame) (x : Raw) {h : Head} {r t : MainFrame} → HeadOwes last h
    → IntraOwes d (frame_of h last.values) x t → r ≡ t → IntraOwes d last x r
intra_whole d last x e f w older = w ∙ f older ∙ ap (λ l. intra_frame (shape d) (rules d) (past_of (body_of l) older) x) (whole last e)

pub inter_whole : (d : Definition) (last older : MainFrame) (x : Raw) {h k : Head} {r t : MainFrame} → HeadOwes last h → HeadOwes older k
    → InterOwes d (frame_of h last.values) (frame_of k older.values) x t → r ≡ t → InterOwes d last older x r
inter_whole d last older x e g f w =
    w ∙ f ∙ ap₂ (λ l o. inter_frame (shape d) (rules d) (past_of (body_of l) (body_of o)) x) (whole last e) (whole older g)
