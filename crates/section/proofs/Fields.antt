-- The fields of an outcome: as many as its answer hands out, at most 62, and what a buffer then begins with.
use Prim.Native.Nat.{ℕ, ◌+◌, ◌≤◌}
use mathlib.Core.Bool.{true}
use mathlib.Core.List.{List}
use Rattle.std.specs.Prelude.{None}
use mathlib.Core.Path.{◌≡◌, refl, ap, ◌∙◌}
use native.Mathlib.Omega.{arith}
use lib.ListN.{length, take, drop, replicate, length-replicate}
use lib.Seq.{sets, sets-eq, length-sets, length-take-le, take-append_seam}
use Rattle.plan.specs.declared.Definition.{Definition}
use Rattle.plan.specs.Plan.{fields, shape, rules}
use Rattle.plan.specs.Sound.{sound}
use Rattle.reader.specs.Place.{padded}
use Rattle.raws.specs.declared.Raw.{Raw}
use Rattle.frame.specs.Frames.{values_in, intra_fields, inter_fields, slow_fields, intra_frame, inter_frame, slow_values}
use Rattle.frame.specs.Values.{values_of}
use Rattle.history.specs.declared.History.{History}
use Rattle.history.specs.History.{past}
use Rattle.extent.specs.declared.Found.{Found}
use Rattle.extent.specs.declared.Found.TheVariants as found
use Rattle.extent.specs.declared.Look.{Look}
use Rattle.extent.specs.declared.Seen.{Seen}
use Rattle.extent.specs.declared.Seen.TheVariants as seen
use Rattle.extent.specs.Extent.{look}
use Rattle.section.specs.declared.Answer.{Answer}
use Rattle.section.specs.declared.Answer.TheVariants.{Passed, Rejected, Event, Intra, Inter, Slow, Over, Refused}
use Rattle.section.specs.declared.Looked.{Looked}
use Rattle.section.specs.declared.quick.Settled.{Settled}
use Rattle.section.specs.declared.quick.Values.{Values}
use Rattle.section.specs.declared.Walk.{Walk}
use Rattle.section.specs.Answers.{Told, told, handed, hands_out}
use Rattle.section.specs.Fits.{Rooms}
use Rattle.section.specs.Lent.{told_beside}
use Rattle.section.specs.Owes.{HandOutOwes}
use Rattle.section.specs.Walk.{Outcome, answer_with, fields_with, answer_after, fields_after, settled, over, tick}
use Rattle.section.proofs.Admitted.{sound_rooms, needed_rooms}
use Rattle.section.proofs.Paper.{paper_injective}
use Rattle.section.proofs.Stays.{tick_by}

-- as many fields as the answer hands out
abbrev pub Full : Definition → Outcome → Type 0
Full d o = length o.fields ≡ hands_out d o.answer

-- a buffer with rooms for every field has room for those of an answer
pub hands_out_rooms : (d : Definition) {room : ℕ} → Rooms d room → (a : Answer) → hands_out d a ≤ room
unfolding hands_out
hands_out_rooms d rooms Passed = omega arith
hands_out_rooms d rooms (Rejected k p) = omega arith
hands_out_rooms d rooms (Event x) = omega arith
hands_out_rooms d rooms (Intra x) = rooms.main_out
hands_out_rooms d rooms (Inter x) = rooms.main_out
hands_out_rooms d rooms (Slow x) = rooms.slow_out
hands_out_rooms d rooms (Over e) = omega arith
hands_out_rooms d rooms (Refused why) = omega arith

-- a buffer with room for the fields that they were put into begins with them
pub begins_with : (d : Definition) (o : Outcome) (buf : List ℕ) → Full d o → hands_out d o.answer ≤ length buf
    → take (hands_out d o.answer) (sets buf 0 o.fields) ≡ o.fields
begins_with d o buf full rooms =
    let vs = o.fields in
    let fits : 0 + length vs ≤ length buf = omega arith in
    rw (← full) (ap (take (length vs)) (sets-eq vs buf 0 fits) ∙ take-append_seam vs (drop (0 + length vs) buf))

-- values in their rooms, cut at a count
front_full : (n : ℕ) (vs : List ℕ) → n ≤ 62 → length (take n (padded 62 vs)) ≡ n
front_full n vs h = length-take-le n (padded 62 vs) (omega (arith, length-sets (replicate 62 0) 0 vs, length-replicate {A = ℕ} 62 0))

-- ## With rooms for every field

module _ (d : Definition) {room : ℕ} (rooms : Rooms d room) where
  -- 62 rooms are enough
  abbrev pub most : Rooms d 62
  most = record { main = rooms.main; slow = rooms.slow; main_out = rooms.main; slow_out = omega (arith, rooms.slow) }

  with_full : (f : Found) (p : ℕ) (x : Raw) (y : History) → length (fields_with d f x y) ≡ hands_out d (answer_with d f p x y)
  unfolding fields_with answer_with hands_out intra_frame inter_frame slow_values
  with_full (found.Event e) p x y = refl
  with_full found.Intra p x y =
      front_full (fields d.main) (values_of (intra_fields (shape d) (rules d)) (values_in (past y).last) None x.fields) rooms.main
  with_full found.Inter p x y =
      front_full (fields d.main)
      (values_of (inter_fields (shape d) (rules d) (past y)) (values_in (past y).last) (values_in (past y).older) x.fields) rooms.main
  with_full found.Slow p x y =
      front_full d.slow.n (values_of (slow_fields (shape d) (rules d)) None None x.fields) (omega (arith, rooms.slow))

  after_full : (e : Seen) (p : ℕ) (x : Raw) (y : History) → length (fields_after d e x y) ≡ hands_out d (answer_after d e p x y)
  unfolding fields_after answer_after hands_out
  after_full seen.Nothing p x y = refl
  after_full (seen.Passed k) p x y = refl
  after_full (seen.Rejected k j) p x y = refl
  after_full (seen.Cutoff k) p x y = refl
  after_full (seen.Accepted f m) p x y = with_full f p x y

  -- a look
  pub settled_full : (l : Look) (z : ℕ) (w : Walk) → Full d (settled d l z w)
  unfolding settled
  settled_full l z w = after_full l.seen w.tally.place l.raw w.history

  over_full : (w : Walk) → Full d (over w)
  unfolding over hands_out
  over_full w = refl

  pub roomy_full : (s : List ℕ) (w : Walk) → Full d (tick d s w)
  roomy_full s w = tick_by d s (Full d) w (λ _. settled_full (look (shape d) (drop w.tally.place s)) (length s) w) (λ _. over_full w)

  -- an outcome in 62 rooms, handed out to a buffer
  pub handed_out : (o : Outcome) → Full d o → (x : Settled) (v : Values) → told_beside x v ≡ handed o (replicate 62 0)
      → (out : List ℕ) (r : Looked) {after : List ℕ} → HandOutOwes d x v out r after → told r after ≡ handed o out
  unfolding handed
  handed_out o full x v e out r owes =
      let answer : x.answer ≡ o.answer = paper_injective x.answer o.answer (ap (λ (t : Told). t.said) e) in
      let there : v.fields ≡ sets (replicate 62 0) 0 o.fields = ap (λ (t : Told). t.out) e in
      let begins = begins_with d o (replicate 62 0) full (omega (arith, hands_out_rooms d most o.answer, length-replicate {A = ℕ} 62 0)) in
      let put : take (hands_out d x.answer) v.fields ≡ o.fields = (λ i. take (hands_out d (answer i)) (there i)) ∙ begins in
      owes ∙ (λ i. record { said = (e i).said; trials = (e i).trials; walk = (e i).walk; out = sets out 0 (put i) })

-- ## Under a sound definition

module _ (d : Definition) (h : sound d ≡ true) where
  pub sane : Rooms d 62
  sane = sound_rooms d h (needed_rooms d h)

  pub hands_out_few : (a : Answer) → hands_out d a ≤ 62
  hands_out_few = hands_out_rooms d sane

  pub tick_full : (s : List ℕ) (w : Walk) → Full d (tick d s w)
  tick_full = roomy_full d sane
