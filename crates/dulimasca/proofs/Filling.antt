-- The ways through `dulimasca_fill`: no definition, no such kind, a refusal, no room for the numbers, a frame or how the walk ended before it.
-- A frame's fields are the first values of the inner buffer.
use Prim.Native.Nat.{ℕ, ◌*◌, ◌/◌, ◌≤◌}
use Rattle.std.specs.Prelude.{Option, Ok, Err}
use Rattle.std.specs.Option.{ok_or}
use mathlib.Core.Bool.{true}
use mathlib.Core.List.{List}
use mathlib.Core.Path.{◌≡◌, refl, sym, ap, ap₂, ◌∙◌}
use native.Mathlib.Nat.{one-mul}
use native.Mathlib.Omega.{arith}
use lib.ListN.{length, take}
use lib.Seq.{sets}
use borrow.Author.Tests.{le-leb}
use Rattle.plan.specs.declared.Definition.{Definition}
use Rattle.plan.specs.Sound.{sound}
use Rattle.reader.specs.Place.{padded}
use Rattle.section.specs.declared.Answer.{Answer}
use Rattle.section.specs.declared.Looked.{Looked}
use Rattle.section.specs.declared.Refusal.{Refusal}
use Rattle.section.specs.declared.Refusal.TheVariants.{Unsound, TooShort}
use Rattle.section.specs.Answers.{Told, paper_of, hands_out, handed, checked_first}
use Rattle.section.specs.Fits.{Rooms}
use Rattle.section.specs.Refusals.{Check, pass, admitted, needed, checked}
use Rattle.section.specs.Walk.{Outcome, start}
use Rattle.section.proofs.Admitted.{admitted_sound, needed_rooms, checked_pass}
use Rattle.section.proofs.Paper.{paper_injective}
use Rattle.octets.specs.Bytes.{words, longs}
use Rattle.store.specs.Definition.{taken_definition}
use Rattle.walks.specs.declared.Goal.TheVariants.{Frame}
use Rattle.plan.specs.declared.Sort.{Sort}
use Rattle.walks.specs.Owes as walks
use Rattle.walks.specs.Walks.{walked, filled_of}
use Rattle.section.proofs.Fields.{begins_with, hands_out_rooms, hands_out_few}
use Rattle.walks.proofs.Fields.{walked_full}
use Rattle.dulimasca.specs.Calls.{fill_numbers, filled, checked_fill, fill_by, fill_of}
use Rattle.dulimasca.specs.Owes.{FillOwes}
use Rattle.dulimasca.specs.Told.{packed, packed_by, in_bytes, roomy, told_length, reply, if_room, sort_for}
use Rattle.dulimasca.proofs.Replying.{tells, long_enough, room_there, room_short}
use Rattle.dulimasca.proofs.Taken.{given, missing, taken, not_taken}

-- ## What the check says, its length in bytes

passed_in : (c : Check) {u : Unit {0}} → ◌≡◌ {A = Check} (Ok u) (in_bytes c 4) → c ≡ pass
unfolding in_bytes
passed_in (Ok u) e = refl
passed_in (Err Unsound) e = let z : ◌≡◌ {A = ℕ} 0 1 = cc in absurd (omega arith)
passed_in (Err (TooShort n)) e = let z : ◌≡◌ {A = ℕ} 0 1 = cc in absurd (omega arith)

refused_in : (c : Check) (o : Outcome) (out told : List ℕ) {why : Refusal} → ◌≡◌ {A = Check} (Err why) (in_bytes c 4)
    → reply (packed_by why 1) out told ≡ checked_fill c o out told
unfolding in_bytes checked_fill packed_by
refused_in (Ok u) o out told e = let z : ◌≡◌ {A = ℕ} 0 1 = cc in absurd (omega arith)
refused_in (Err Unsound) o out told {why} e = let f : why ≡ Unsound = cc in ap (λ y. reply (packed_by y 1) out told) f
refused_in (Err (TooShort n)) o out told {why} e =
    let f : why ≡ TooShort (4 * n) = cc in
    ap (λ y. reply (packed_by y 1) out told) f ∙ ap (λ m. reply (packed 11 m 0) out told) (one-mul (4 * n))

-- ## A check that passes

module _ (d : Definition) (z room : ℕ) (passes : checked d start z room ≡ pass) where
  passed : (admitted d z start ≡ true) × Rooms d room
  passed = checked_pass d start z room passes

  is_sound : sound d ≡ true
  is_sound = admitted_sound d z start passed.0

  values_few : (a : Answer) {n : ℕ} → n ≡ hands_out d a → (n ≤ 62) × (n ≤ room)
  values_few a e = rw e (hands_out_few d is_sound a, hands_out_rooms d passed.1 a)

  -- 62 places are enough for the inner walk
  inner_passes : checked d start z 62 ≡ pass
  unfolding checked
  inner_passes = simp (passed.0, le-leb (needed d) 62 (needed_rooms d is_sound))

-- ## The inner walk

module _ (d : Definition) (s : List ℕ) (of : Sort) (k : ℕ) (sane : sound d ≡ true) (passes : checked d start (length s) 62 ≡ pass) where
  abbrev end : Outcome
  end = walked (Frame of k) d s start

  module _ (buf : List ℕ) (l : length buf ≡ 62) (x : Looked) {after : List ℕ} (fills : walks.FillOwes d s of k buf x after) where
    tells_end : filled_of of k d s buf ≡ handed end buf
    unfolding filled_of checked_first
    tells_end = ap (λ (y : Check). checked_first y end start buf) (ap (checked d start (length s)) l ∙ passes)

    same_answer : x.answer ≡ end.answer
    unfolding handed
    same_answer = paper_injective x.answer end.answer (ap (λ (y : Told). y.said) (fills ∙ tells_end))

    first_values : {n : ℕ} → n ≡ hands_out d x.answer → take n after ≡ end.fields
    unfolding handed
    first_values e =
        ap₂ take (e ∙ ap (hands_out d) same_answer) (ap (λ (y : Told). y.out) (fills ∙ tells_end))
        ∙ begins_with d end buf (walked_full d sane (Frame of k) s start) (omega (arith, l, hands_out_few d sane end.answer))

    same_trials : x.trials ≡ end.walk.tally.trials
    unfolding handed
    same_trials = ap (λ (y : Told). y.trials) (fills ∙ tells_end)

    values_given : {n a : ℕ} (out told : List ℕ) {out' xs told' : List ℕ} → n ≡ hands_out d x.answer → out' ≡ sets out 0 (words (take n after))
        → xs ≡ padded 8 (fill_numbers x.answer x.trials) → told' ≡ sets told 0 (longs xs) → a ≡ (paper_of x.answer).number
        → reply a out' told' ≡ filled end out told
    unfolding filled
    values_given out told e put numbers tell is =
        let a = ap (λ (y : Answer). (paper_of y).number) same_answer in
        let b = ap₂ (λ (y : Answer) (n : ℕ). padded 8 (fill_numbers y n)) same_answer same_trials in
        let lent = put ∙ ap (λ ys. sets out 0 (words ys)) (first_values e) in
        let says = tells (fill_numbers end.answer end.walk.tally.trials) told (numbers ∙ b) tell in
        (λ i. reply ((is ∙ a) i) (lent i) (says i))

-- ## The ways

module _ (def s : List ℕ) (kind k : ℕ) (out told : List ℕ) where
  pub fill_no_definition : {why : Refusal} → Err why ≡ ok_or (taken_definition def) Unsound → FillOwes def s kind k out told (packed_by why 1) out told
  unfolding fill_of packed_by
  fill_no_definition e = let p = not_taken def e in rw (p.1, p.0)

  module _ {d : Definition} (e : Ok d ≡ ok_or (taken_definition def) Unsound) where
    by_sort : {which : Option Sort} → sort_for kind ≡ which → fill_by which d s k out told ≡ fill_of def s kind k out told
    unfolding fill_of
    by_sort g = simp (sym g, (taken def e).1, (taken def e).0)

    pub fill_no_kind : {why : Refusal} → Err why ≡ ok_or (sort_for kind) Unsound → FillOwes def s kind k out told (packed_by why 1) out told
    unfolding fill_by packed_by
    fill_no_kind g = let p = missing (sort_for kind) g in ap (λ y. reply (packed_by y 1) out told) p.1 ∙ by_sort p.0

    module _ {of : Sort} (g : Ok of ≡ ok_or (sort_for kind) Unsound) where
      abbrev verdict : Check
      verdict = checked d start (length s) (length out / 4)

      found : Outcome
      found = walked (Frame of k) d s start

      by_check : checked_fill verdict found out told ≡ fill_of def s kind k out told
      unfolding fill_by found
      by_check = by_sort (given (sort_for kind) g)

      pub fill_refused : {why : Refusal} → ◌≡◌ {A = Check} (Err why) (in_bytes verdict 4) → FillOwes def s kind k out told (packed_by why 1) out told
      fill_refused is = refused_in verdict found out told is ∙ by_check

      module _ {u : Unit {0}} (passes : ◌≡◌ {A = Check} (Ok u) (in_bytes verdict 4)) where
        by_room : if_room (filled found out told) out told ≡ fill_of def s kind k out told
        unfolding checked_fill
        by_room = ap (λ y. checked_fill y found out told) (sym (passed_in verdict passes)) ∙ by_check

        pub fill_untold : {why : Refusal} → ◌≡◌ {A = Check} (Err why) (roomy told told_length) → FillOwes def s kind k out told (packed_by why 1) out told
        fill_untold i = room_short (filled found out told) out told i ∙ by_room

        pub values_fit : (a : Answer) {n : ℕ} → n ≡ hands_out d a → (n ≤ 62) × (n ≤ length out / 4)
        values_fit = values_few d (length s) (length out / 4) (passed_in verdict passes)

        pub fill_given : {v : Unit {0}} → ◌≡◌ {A = Check} (Ok v) (roomy told told_length) → (buf : List ℕ) → length buf ≡ 62 → (x : Looked) {after : List ℕ}
            → walks.FillOwes d s of k buf x after
            → {n a : ℕ} {out' xs told' : List ℕ} → n ≡ hands_out d x.answer → out' ≡ sets out 0 (words (take n after))
            → xs ≡ padded 8 (fill_numbers x.answer x.trials) → told' ≡ sets told 0 (longs xs) → a ≡ (paper_of x.answer).number
            → FillOwes def s kind k out told a out' told'
        unfolding found
        fill_given room buf l x fills n put numbers tell is =
            let p = passed_in verdict passes in
            values_given d s of k (is_sound d (length s) (length out / 4) p) (inner_passes d (length s) (length out / 4) p)
            buf l x fills out told n put numbers tell is
            ∙ room_there (filled found out told) out told (long_enough told told_length room)
            ∙ by_room
