-- The ways through `dulimasca_name`: no definition, no such kind, no room for the numbers, a name, none.
use Prim.Native.Nat.{ℕ}
use Rattle.std.specs.Prelude.{Option, Some, None, Ok, Err}
use Rattle.std.specs.Option.{ok_or}
use mathlib.Core.List.{List, [], ◌∷◌}
use mathlib.Core.Path.{◌≡◌, refl, sym, ap, ◌∙◌}
use lib.Seq.{sets}
use Rattle.items.specs.declared.Stretch.{Stretch}
use Rattle.names.specs.Names.{name_at}
use Rattle.plan.specs.declared.Definition.{Definition}
use Rattle.plan.specs.declared.Sort.{Sort}
use Rattle.reader.specs.Place.{padded}
use Rattle.section.specs.declared.Refusal.{Refusal}
use Rattle.section.specs.declared.Refusal.TheVariants.{Unsound}
use Rattle.section.specs.Refusals.{Check}
use Rattle.store.specs.Definition.{taken_definition}
use Rattle.octets.specs.Bytes.{longs}
use Rattle.dulimasca.specs.Define.{name_reply, name_by, name_of}
use Rattle.dulimasca.specs.Owes.{NameOwes}
use Rattle.dulimasca.specs.Told.{Reply, packed_by, roomy, told_length, reply, if_room, sort_for}
use Rattle.dulimasca.proofs.Replying.{tells, long_enough, room_there, room_short}
use Rattle.dulimasca.proofs.Taken.{given, missing, taken, not_taken}

module _ (def : List ℕ) (kind : ℕ) (main slow : List ℕ) (k : ℕ) (told : List ℕ) where
  pub name_no_definition : {why : Refusal} → Err why ≡ ok_or (taken_definition def) Unsound → NameOwes def kind main slow k told (packed_by why 1) told
  unfolding name_of packed_by
  name_no_definition e = let p = not_taken def e in rw (p.1, p.0)

  module _ {d : Definition} (e : Ok d ≡ ok_or (taken_definition def) Unsound) where
    by_sort : {which : Option Sort} → sort_for kind ≡ which → name_by which d main slow k told ≡ name_of def kind main slow k told
    unfolding name_of
    by_sort g = simp (sym g, (taken def e).1, (taken def e).0)

    pub name_no_kind : {why : Refusal} → Err why ≡ ok_or (sort_for kind) Unsound → NameOwes def kind main slow k told (packed_by why 1) told
    unfolding name_by packed_by
    name_no_kind g = let p = missing (sort_for kind) g in ap (λ y. reply (packed_by y 1) [] told) p.1 ∙ by_sort p.0

    module _ {of : Sort} (g : Ok of ≡ ok_or (sort_for kind) Unsound) where
      named : Reply
      named = name_reply (name_at d of main slow k) told

      by_room : if_room named [] told ≡ name_of def kind main slow k told
      unfolding name_by named
      by_room = by_sort (given (sort_for kind) g)

      pub name_untold : {why : Refusal} → ◌≡◌ {A = Check} (Err why) (roomy told told_length) → NameOwes def kind main slow k told (packed_by why 1) told
      name_untold h = room_short named [] told h ∙ by_room

      module _ {u : Unit {0}} (room : ◌≡◌ {A = Check} (Ok u) (roomy told told_length)) where
        by_name : {s : Option Stretch} → s ≡ name_at d of main slow k → name_reply s told ≡ name_of def kind main slow k told
        unfolding named
        by_name n = ap (λ x. name_reply x told) n ∙ room_there named [] told (long_enough told told_length room) ∙ by_room

        pub name_there : (s : Stretch) {told' : List ℕ} → Some s ≡ name_at d of main slow k → told' ≡ sets told 0 (longs (padded 8 (s.start ∷ s.end ∷ [])))
            → NameOwes def kind main slow k told 0 told'
        unfolding name_reply
        name_there s n h = ap (reply 0 []) (tells (s.start ∷ s.end ∷ []) told refl h) ∙ by_name n

        pub name_none : {told' : List ℕ} → None ≡ name_at d of main slow k → told' ≡ sets told 0 (longs (padded 8 []))
            → NameOwes def kind main slow k told 4 told'
        unfolding name_reply
        name_none n h = ap (reply 4 []) (tells [] told refl h) ∙ by_name n
