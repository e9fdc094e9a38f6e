-- The ways through `dulimasca_start` and `dulimasca_count`: short buffers, a state that has not begun; no definition, one that is not sound, a count.
use Prim.Native.Nat.{ℕ}
use Rattle.std.specs.Prelude.{Ok, Err}
use Rattle.std.specs.Option.{ok_or}
use mathlib.Core.Bool.{Bool, true, false, cond}
use mathlib.Core.List.{List, [], ◌∷◌, ◌++◌}
use mathlib.Core.Path.{◌≡◌, refl, sym, ap, ◌∙◌}
use lib.ListN.{length}
use lib.Seq.{sets}
use borrow.Author.Tests.{le-leb, lt-leb}
use Rattle.plan.specs.Sound.{sound}
use Rattle.reader.specs.Place.{padded}
use Rattle.section.specs.declared.Refusal.{Refusal}
use Rattle.section.specs.declared.Refusal.TheVariants.{Unsound}
use Rattle.section.specs.Refusals.{Check, pass}
use Rattle.section.specs.declared.Tally.{Tally}
use Rattle.section.specs.declared.Walk.{Walk}
use Rattle.section.specs.Answers.{checked_first, handed}
use Rattle.section.specs.Walk.{start}
use Rattle.section.proofs.Stays.{start_admitted}
use Rattle.plan.specs.declared.Definition.{Definition}
use Rattle.store.specs.Definition.{taken_definition}
use Rattle.store.specs.State.{state_length, with_state}
use Rattle.walks.specs.declared.Counted.{Counted}
use Rattle.walks.specs.declared.Goal.TheVariants.{End}
use Rattle.walks.specs.Owes as walks
use Rattle.walks.specs.Walks.{Counts, checked_state, through_of, walked}
use Rattle.octets.specs.Bytes.{longs}
use Rattle.dulimasca.specs.Calls.{count_reply, count_by, count_of}
use Rattle.dulimasca.specs.Define.{start_of}
use Rattle.dulimasca.specs.Owes.{StartOwes, CountOwes}
use Rattle.dulimasca.specs.Told.{Reply, packed_by, roomy, told_length, reply, telling, refuse, if_room, status_by, tally_numbers}
use Rattle.dulimasca.proofs.Replying.{tells, packed_short, long_enough, too_short, room_there, room_short}
use Rattle.dulimasca.proofs.Taken.{taken, not_taken}

-- ## A walk's first state

module _ (st told : List ℕ) where
  pub start_short : {why : Refusal} → ◌≡◌ {A = Check} (Err why) (roomy st state_length) → StartOwes st told (packed_by why 1) st told
  unfolding start_of
  start_short e =
      let p = too_short st state_length e in
      ap (λ y. reply (packed_by y 1) st told) p.1
      ∙ ap (λ n. reply n st told) (packed_short state_length)
      ∙ simp (lt-leb state_length (length st) p.0)

  module _ {u : Unit {0}} (long : ◌≡◌ {A = Check} (Ok u) (roomy st state_length)) where
    begun : Reply
    begun = reply 0 (with_state start st) (telling [] told)

    by_room : if_room begun st told ≡ start_of st told
    unfolding start_of begun
    by_room = simp (le-leb state_length (length st) (long_enough st state_length long))

    pub start_untold : {why : Refusal} → ◌≡◌ {A = Check} (Err why) (roomy told told_length) → StartOwes st told (packed_by why 1) st told
    start_untold e = room_short begun st told e ∙ by_room

    pub start_put : {v : Unit {0}} {w : Walk} {st' told' : List ℕ} → ◌≡◌ {A = Check} (Ok v) (roomy told told_length) → w ≡ start → st' ≡ with_state w st
        → told' ≡ sets told 0 (longs (padded 8 [])) → StartOwes st told 0 st' told'
    unfolding begun
    start_put room first put tell =
        (λ i. reply 0 ((put ∙ ap (λ x. with_state x st) first) i) (tells [] told refl tell i))
        ∙ room_there begun st told (long_enough told told_length room)
        ∙ by_room

-- ## The count of a section

-- no rows to tell
no_rows : (t : Tally) → padded 8 (tally_numbers t ++ (0 ∷ [])) ≡ padded 8 (tally_numbers t)
unfolding tally_numbers
no_rows t = refl

module _ (def s told : List ℕ) where
  pub count_no_definition : {why : Refusal} → Err why ≡ ok_or (taken_definition def) Unsound → CountOwes def s told (packed_by why 1) told
  unfolding count_of packed_by
  count_no_definition e = let p = not_taken def e in rw (p.1, p.0)

  module _ {d : Definition} (e : Ok d ≡ ok_or (taken_definition def) Unsound) {b : Bool} (sane : b ≡ sound d) where
    by_definition : count_by d s told ≡ count_of def s told
    unfolding count_of
    by_definition = simp ((taken def e).1, (taken def e).0)

    pub count_unsound : b ≡ false → CountOwes def s told (packed_by Unsound 1) told
    unfolding count_by packed_by
    count_unsound f = let no : refuse 10 0 [] told ≡ count_by d s told = simp (sym sane ∙ f) in no ∙ by_definition

    module _ (yes-sound : b ≡ true) where
      last : Tally
      last = (walked End d s start).walk.tally

      by_sound : if_room (count_reply last told) [] told ≡ count_of def s told
      unfolding count_by last
      by_sound = let one : if_room (count_reply last told) [] told ≡ count_by d s told = simp (sym sane ∙ yes-sound) in one ∙ by_definition

      pub count_untold : {why : Refusal} → ◌≡◌ {A = Check} (Err why) (roomy told told_length) → CountOwes def s told (packed_by why 1) told
      count_untold h = room_short (count_reply last told) [] told h ∙ by_sound

      same_tally : (c : Counted) → walks.CountOwes d s c → c.tally ≡ last
      unfolding through_of checked_state checked_first handed last
      same_tally c is =
          ap (λ (x : Counts). x.tally) is
          ∙ ap (λ q. (checked_first (cond q pass (Err Unsound)) (walked End d s start) start []).walk.tally)
          (start_admitted d (length s) (sym sane ∙ yes-sound))

      pub count_told : {u : Unit {0}} → ◌≡◌ {A = Check} (Ok u) (roomy told told_length) → (c : Counted) {xs told' : List ℕ} {a : ℕ}
          → walks.CountOwes d s c → xs ≡ padded 8 (tally_numbers c.tally ++ (0 ∷ [])) → told' ≡ sets told 0 (longs xs) → a ≡ status_by c.tally.ending
          → CountOwes def s told a told'
      unfolding count_reply
      count_told room c is numbers tell n =
          (λ i. reply (n i) [] (tells (tally_numbers c.tally) told (numbers ∙ no_rows c.tally) tell i))
          ∙ ap (λ (x : Tally). count_reply x told) (same_tally c is)
          ∙ room_there (count_reply last told) [] told (long_enough told told_length room)
          ∙ by_sound
