-- A walk that is stored is read again, as the walk that it was, and what is read from bytes has the sizes that its numbers are stored with.
use Prim.Native.Nat.{ℕ, zero, suc, ◌+◌, ◌<◌, ◌≤◌}
use mathlib.Core.Bool.{Bool, true, false, cond}
use mathlib.Core.Path.{◌≡◌, refl, sym, ap, ap₂, ◌∙◌}
use mathlib.Core.List.{List, [], ◌∷◌, ◌++◌, append_assoc}
use native.Mathlib.Omega.{arith}
use lib.Dec.{eqb, leb}
use lib.ListN.{length, get_or, drop, length-append}
use lib.Seq.{sets, sets-eq, length-sets, drop_at, drop-drop}
use borrow.Author.Tests.{le-leb}
use Rattle.reader.specs.declared.Kind.TheVariants.{Event, Intra, Inter, Gps, Home, Slow}
use Rattle.std.specs.Prelude.{Option, Some, None}
use Rattle.reader.specs.declared.Kind.{Kind}
use Rattle.reader.specs.Search.{letter_of}
use Rattle.frame.specs.declared.MainFrame.{MainFrame}
use Rattle.frame.specs.declared.Mark.{Mark}
use Rattle.frame.specs.declared.Mark.TheVariants as marks
use Rattle.section.specs.declared.Ending.{Ending}
use Rattle.section.specs.declared.Ending.TheVariants.{Going, Done, Out, Cut}
use Rattle.section.specs.declared.Tally.{Tally}
use Rattle.section.specs.declared.Walk.{Walk}
use Rattle.octets.specs.Bytes.{le32, le64, words, num32, num64, nums}
use Rattle.octets.proofs.Round.{Bytes, Small, num_le, num_le64, nums_words, bytes_drop, num32_small, num64_small, nums_small, length_nums}
use Rattle.sizes.specs.Sized.{Is32, Is64, Each, EndingSized, FrameSized, TallySized, WalkSized}
use Rattle.store.specs.State.{mark_code, mark_of, is_mark, ending_code, cut_place, cut_by, ending_of, is_ending}
use Rattle.store.specs.State.{frame_bytes, frame_at, tally_bytes, tally_at, state_bytes, with_state, walk_at, is_state}
use Rattle.store.proofs.States.{length_frame, length_tally, state_all}

-- ## Codes

pub mark_round : (m : Mark) → mark_of (mark_code m) ≡ m
unfolding mark_of mark_code
mark_round marks.Absent = refl
mark_round marks.Intra = refl
mark_round marks.Inter = refl

pub mark_is : (m : Mark) → is_mark (mark_code m) ≡ true
unfolding is_mark mark_code
mark_is marks.Absent = refl
mark_is marks.Intra = refl
mark_is marks.Inter = refl

mark_small : (m : Mark) → mark_code m < 4294967296
unfolding mark_code
mark_small marks.Absent = omega arith
mark_small marks.Intra = omega arith
mark_small marks.Inter = omega arith

pub ending_round : (e : Ending) → ending_of (ending_code e) (cut_place e) ≡ e
unfolding ending_of ending_code cut_place cut_by letter_of
ending_round Going = refl
ending_round Done = refl
ending_round Out = refl
ending_round (Cut Event p) = refl
ending_round (Cut Intra p) = refl
ending_round (Cut Inter p) = refl
ending_round (Cut Gps p) = refl
ending_round (Cut Home p) = refl
ending_round (Cut Slow p) = refl

pub ending_is : (e : Ending) → is_ending (ending_code e) ≡ true
unfolding is_ending ending_code letter_of
ending_is Going = refl
ending_is Done = refl
ending_is Out = refl
ending_is (Cut Event p) = refl
ending_is (Cut Intra p) = refl
ending_is (Cut Inter p) = refl
ending_is (Cut Gps p) = refl
ending_is (Cut Home p) = refl
ending_is (Cut Slow p) = refl

ending_small : (e : Ending) → Is64 (ending_code e)
unfolding ending_code
ending_small Going = omega arith
ending_small Done = omega arith
ending_small Out = omega arith
ending_small (Cut Event p) = omega arith
ending_small (Cut Intra p) = omega arith
ending_small (Cut Inter p) = omega arith
ending_small (Cut Gps p) = omega arith
ending_small (Cut Home p) = omega arith
ending_small (Cut Slow p) = omega arith

cut_small : (e : Ending) → EndingSized e → Is64 (cut_place e)
unfolding cut_place
cut_small Going h = omega arith
cut_small Done h = omega arith
cut_small Out h = omega arith
cut_small (Cut k p) h = h

-- ## What is stored is read

same_frame : {m m' : Mark} {i i' t t' : ℕ} {vs vs' : List ℕ} → m ≡ m' → i ≡ i' → t ≡ t' → vs ≡ vs' →
    ◌≡◌ {A = MainFrame} (record { mark = m; iteration = i; time = t; values = vs }) (record { mark = m'; iteration = i'; time = t'; values = vs' })
same_frame a b c d = rw (a, b, c, d)

first_mark : (f : MainFrame) (rest : List ℕ) → num32 (frame_bytes f ++ rest) ≡ mark_code f.mark
unfolding frame_bytes le32
first_mark f rest = num_le (mark_code f.mark) ((le32 f.iteration ++ le64 f.time ++ words f.values) ++ rest) (mark_small f.mark)

small_each : (vs : List ℕ) → Each Is32 vs → Small vs
small_each [] s = tt
small_each (v ∷ vs) s = (s.0, small_each vs s.1)

each_small : (vs : List ℕ) → Small vs → Each Is32 vs
each_small [] s = tt
each_small (v ∷ vs) s = (s.0, each_small vs s.1)

values_round : (vs rest : List ℕ) (k : ℕ) → length vs ≡ k → Each Is32 vs → nums k (words vs ++ rest) ≡ vs
values_round vs rest k e s = ap (λ (n : ℕ). nums n (words vs ++ rest)) (sym e) ∙ nums_words vs rest (small_each vs s)

pub frame_round : (f : MainFrame) (rest : List ℕ) → FrameSized f → frame_at (frame_bytes f ++ rest) ≡ f
unfolding frame_at frame_bytes le32 le64
frame_round f rest h =
    same_frame (ap mark_of (first_mark f rest) ∙ mark_round f.mark) (num_le f.iteration _ h.iteration) (num_le64 f.time _ h.time)
    (values_round f.values rest 62 h.long h.small)

count_small : (l : List ℕ) (i : ℕ) → Each Is64 l → Is64 (get_or l i 0)
count_small [] i h = omega arith
count_small (v ∷ l) zero h = h.0
count_small (v ∷ l) (suc i) h = count_small l i h.1

-- a list of four is its four places
four_places : (l : List ℕ) → length l ≡ 4 → ◌≡◌ {A = List ℕ} (get_or l 0 0 ∷ get_or l 1 0 ∷ get_or l 2 0 ∷ get_or l 3 0 ∷ []) l
four_places [] e = absurd (let b : ⊥ = omega arith in b)
four_places (v ∷ []) e = absurd (let b : ⊥ = omega arith in b)
four_places (v ∷ w ∷ []) e = absurd (let b : ⊥ = omega arith in b)
four_places (v ∷ w ∷ x ∷ []) e = absurd (let b : ⊥ = omega arith in b)
four_places (v ∷ w ∷ x ∷ y ∷ []) e = refl
four_places (v ∷ w ∷ x ∷ y ∷ z ∷ l) e = absurd (let b : ⊥ = omega arith in b)

same_tally : {p p' t t' : ℕ} {e e' : Ending} {cs cs' : List ℕ} → p ≡ p' → e ≡ e' → cs ≡ cs' → t ≡ t' →
    ◌≡◌ {A = Tally} (record { place = p; ending = e; counts = cs; trials = t }) (record { place = p'; ending = e'; counts = cs'; trials = t' })
same_tally a b c d = rw (a, b, c, d)

same_four : {a a' b b' c c' d d' : ℕ} → a ≡ a' → b ≡ b' → c ≡ c' → d ≡ d' → ◌≡◌ {A = List ℕ} (a ∷ b ∷ c ∷ d ∷ []) (a' ∷ b' ∷ c' ∷ d' ∷ [])
same_four a b c d = rw (a, b, c, d)

pub tally_round : (t : Tally) (rest : List ℕ) → TallySized t → tally_at (tally_bytes t ++ rest) ≡ t
unfolding tally_at tally_bytes le32 le64
tally_round t rest h =
    let cs = t.counts in
    same_tally (num_le64 t.place _ h.place)
    (ap₂ ending_of (num_le64 (ending_code t.ending) _ (ending_small t.ending)) (num_le64 (cut_place t.ending) _ (cut_small t.ending h.ending))
    ∙ ending_round t.ending)
    (same_four (num_le64 (get_or cs 0 0) _ (count_small cs 0 h.counts)) (num_le64 (get_or cs 1 0) _ (count_small cs 1 h.counts))
    (num_le64 (get_or cs 2 0) _ (count_small cs 2 h.counts)) (num_le64 (get_or cs 3 0) _ (count_small cs 3 h.counts))
    ∙ four_places cs h.four)
    (num_le64 t.trials _ h.trials)

first_version : (t : Tally) (rest : List ℕ) → num64 (tally_bytes t ++ rest) ≡ 1
unfolding tally_bytes le32 le64
first_version t rest = num_le64 1 _ (omega arith)

third_ending : (t : Tally) (rest : List ℕ) → num64 (drop 16 (tally_bytes t ++ rest)) ≡ ending_code t.ending
unfolding tally_bytes le32 le64
third_ending t rest = num_le64 (ending_code t.ending) _ (ending_small t.ending)

-- where the three parts of a walk stand
module _ (w : Walk) (rest : List ℕ) (n : length w.history.last.values ≡ 62) where
  parts : state_bytes w ++ rest ≡ tally_bytes w.tally ++ (frame_bytes w.history.last ++ (frame_bytes w.history.older ++ rest))
  unfolding state_bytes
  parts = simp append_assoc

  last_part : drop 72 (state_bytes w ++ rest) ≡ frame_bytes w.history.last ++ (frame_bytes w.history.older ++ rest)
  last_part = ap (drop 72) parts ∙ drop_at (tally_bytes w.tally) _ 72 (length_tally w.tally)

  older_part : drop 336 (state_bytes w ++ rest) ≡ frame_bytes w.history.older ++ rest
  older_part =
      sym (drop-drop 264 72 (state_bytes w ++ rest)) ∙ ap (drop 264) last_part
      ∙ drop_at (frame_bytes w.history.last) _ 264 (length_frame w.history.last n)

same_walk : {t t' : Tally} {l l' o o' : MainFrame} → t ≡ t' → l ≡ l' → o ≡ o' →
    ◌≡◌ {A = Walk} (record { tally = t; history = record { last = l; older = o } }) (record { tally = t'; history = record { last = l'; older = o' } })
same_walk t l o = rw (t, l, o)

pub walk_round : (w : Walk) (rest : List ℕ) → WalkSized w → walk_at (state_bytes w ++ rest) ≡ w
unfolding walk_at
walk_round w rest h =
    let n = h.last.long in
    same_walk (ap tally_at (parts w rest n) ∙ tally_round w.tally _ h.tally) (ap frame_at (last_part w rest n) ∙ frame_round w.history.last _ h.last)
    (ap frame_at (older_part w rest n) ∙ frame_round w.history.older rest h.older)

pub state_round : (w : Walk) (rest : List ℕ) → length w.history.last.values ≡ 62
    → 600 ≤ length (state_bytes w ++ rest) → is_state (state_bytes w ++ rest) ≡ true
state_round w rest n h =
    let p = parts w rest n in
    state_all (state_bytes w ++ rest) h (sym (ap num64 p ∙ first_version w.tally _)) refl
    (ap (λ (l : List ℕ). is_ending (num64 (drop 16 l))) p ∙ ap is_ending (third_ending w.tally _) ∙ ending_is w.tally.ending)
    (ap (λ (l : List ℕ). is_mark (num32 l)) (last_part w rest n) ∙ ap is_mark (first_mark w.history.last _) ∙ mark_is w.history.last.mark)
    (ap (λ (l : List ℕ). is_mark (num32 l)) (older_part w rest n) ∙ ap is_mark (first_mark w.history.older _) ∙ mark_is w.history.older.mark)

pub length_state : (w : Walk) → WalkSized w → length (state_bytes w) ≡ 600
unfolding state_bytes
length_state w h =
    let a = length_tally w.tally in
    let b = length_frame w.history.last h.last.long in
    let c = length_frame w.history.older h.older.long in
    simp length-append (omega arith)

with_state_law : (w : Walk) (bs : List ℕ) → WalkSized w → 600 ≤ length bs → with_state w bs ≡ state_bytes w ++ drop 600 bs
unfolding with_state
with_state_law w bs z h =
    let n = length_state w z in
    ap (λ (b : Bool). cond b (sets bs 0 (state_bytes w)) bs) (le-leb 600 (length bs) h)
    ∙ sets-eq (state_bytes w) bs 0 (omega arith)
    ∙ ap (λ (k : ℕ). state_bytes w ++ drop k bs) (let q : 0 + length (state_bytes w) ≡ 600 = omega arith in q)

pub stored_walk : (w : Walk) (bs : List ℕ) → WalkSized w → 600 ≤ length bs → walk_at (with_state w bs) ≡ w
stored_walk w bs z h = ap walk_at (with_state_law w bs z h) ∙ walk_round w (drop 600 bs) z

length_choose : (b : Bool) (xs ys : List ℕ) → length xs ≡ length ys → length (cond b xs ys) ≡ length ys
length_choose true xs ys e = e
length_choose false xs ys e = refl

pub length_with_state : (w : Walk) (bs : List ℕ) → length (with_state w bs) ≡ length bs
unfolding with_state
length_with_state w bs = length_choose (leb 600 (length bs)) (sets bs 0 (state_bytes w)) bs (length-sets bs 0 (state_bytes w))

pub stored_is_state : (w : Walk) (bs : List ℕ) → WalkSized w → 600 ≤ length bs → is_state (with_state w bs) ≡ true
stored_is_state w bs z h =
    let e = with_state_law w bs z h in
    let n = ap length e in
    let m = length_with_state w bs in
    ap is_state e ∙ state_round w (drop 600 bs) z.last.long (omega arith)

-- ## What is read from bytes fits

choose_sized : (b : Bool) (x y : Ending) → EndingSized x → EndingSized y → EndingSized (cond b x y)
choose_sized true x y h k = h
choose_sized false x y h k = k

cut_sized : (l : Option Kind) (p : ℕ) → Is64 p → EndingSized (cut_by l p)
unfolding cut_by
cut_sized (Some k) p h = h
cut_sized None p h = tt

ending_sized : (c p : ℕ) → Is64 p → EndingSized (ending_of c p)
unfolding ending_of
ending_sized c p h =
    let l = cut_by (letter_of c) p in
    choose_sized (eqb c 1) Out (cond (eqb c 3) Done l) tt (choose_sized (eqb c 3) Done l tt (cut_sized (letter_of c) p h))

number_sized : (n : ℕ) (bs : List ℕ) → Bytes bs → Is64 (num64 (drop n bs))
number_sized n bs b = num64_small (drop n bs) (bytes_drop n bs b)

frame_sized : (bs : List ℕ) → Bytes bs → FrameSized (frame_at bs)
unfolding frame_at
frame_sized bs b =
    record {
      iteration = num32_small (drop 4 bs) (bytes_drop 4 bs b);
      time = number_sized 8 bs b;
      long = length_nums 62 (drop 16 bs);
      small = each_small (nums 62 (drop 16 bs)) (nums_small 62 (drop 16 bs) (bytes_drop 16 bs b));
    }

tally_sized : (bs : List ℕ) → Bytes bs → TallySized (tally_at bs)
unfolding tally_at
tally_sized bs b =
    record {
      place = number_sized 8 bs b;
      ending = ending_sized (num64 (drop 16 bs)) (num64 (drop 24 bs)) (number_sized 24 bs b);
      four = refl;
      counts = (number_sized 32 bs b, (number_sized 40 bs b, (number_sized 48 bs b, (number_sized 56 bs b, tt))));
      trials = number_sized 64 bs b;
    }

pub state_sized : (bs : List ℕ) → ((i : ℕ) → get_or bs i 0 < 256) → WalkSized (walk_at bs)
unfolding walk_at
state_sized bs b =
    record { tally = tally_sized bs b; last = frame_sized (drop 72 bs) (bytes_drop 72 bs b); older = frame_sized (drop 336 bs) (bytes_drop 336 bs b) }
