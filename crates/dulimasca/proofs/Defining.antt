-- The ways through `dulimasca_settings` and `dulimasca_define`: bytes that are no settings, short buffers, a log that passes, one that is refused.
use Prim.Native.Nat.{ℕ, ◌≤◌}
use mathlib.Core.List.{List, []}
use mathlib.Core.Path.{◌≡◌, sym, ap, ◌∙◌}
use lib.ListN.{length}
use lib.Seq.{sets}
use mathlib.Core.Bool.{Bool, true, false, cond}
use Rattle.std.specs.Prelude.{Ok, Err}
use native.Mathlib.Omega.{arith}
use lib.Dec.{leb}
use borrow.Author.Tests.{le-leb, lt-leb}
use Rattle.reader.specs.Place.{padded}
use Rattle.plan.specs.declared.Numbers.{Numbers}
use Rattle.plan.specs.declared.Settings.{Settings}
use Rattle.header.specs.declared.Header.{Header}
use Rattle.header.specs.Header.{header_of}
use Rattle.definition.specs.declared.Defined.{Defined}
use Rattle.definition.specs.declared.Paper.{Paper}
use Rattle.definition.specs.declared.Refusal.{Refusal}
use Rattle.section.specs.declared.Refusal as section
use Rattle.section.specs.declared.Refusal.TheVariants.{Unsound, TooShort}
use Rattle.section.specs.Refusals.{Check}
use Rattle.definition.specs.Checks.{found, paper_of}
use Rattle.definition.specs.Defined.{defined, told as answer_of}
use Rattle.octets.specs.Bytes.{longs}
use Rattle.settings.specs.declared.Said.{Said}
use Rattle.settings.specs.Said.{said_of}
use Rattle.settings.specs.Stored.{are_settings, numbers_in, settings_in, with_settings}
use Rattle.store.specs.Definition.{with_definition}
use Rattle.dulimasca.specs.Define.{settings_of, about_log, defined_reply, judged_reply, defined_by, lent_for, define_of}
use Rattle.dulimasca.specs.Owes.{SettingsOwes, DefineOwes}
use Rattle.dulimasca.specs.Told.{Reply, packed, packed_by, roomy, told_length, reply, refuse, refuse10, if_room}
use Rattle.dulimasca.proofs.Replying.{tells, packed_short, long_enough, too_short, room_there, room_short}

-- ## What a log says of itself

module _ (log buf : List ℕ) where
  pub settings_short : {why : section.Refusal} → ◌≡◌ {A = Check} (Err why) (roomy buf 24) → SettingsOwes log buf (packed_by why 1) buf
  unfolding settings_of
  settings_short e =
      let p = too_short buf 24 e in
      ap (λ y. reply (packed_by y 1) buf []) p.1 ∙ ap (λ n. reply n buf []) (packed_short 24) ∙ simp (lt-leb 24 (length buf) p.0)

  pub settings_said : {u : Unit {0}} {said : Said} {buf' : List ℕ} → ◌≡◌ {A = Check} (Ok u) (roomy buf 24) → said ≡ said_of log
      → buf' ≡ with_settings said.numbers (record { interval = said.interval }) buf → SettingsOwes log buf 0 buf'
  unfolding settings_of
  settings_said room e put =
      (λ i. reply 0 (put i) []) ∙ ap (λ (s : Said). reply 0 (with_settings s.numbers (record { interval = s.interval }) buf) []) e
      ∙ simp (le-leb 24 (length buf) (long_enough buf 24 room))

-- ## The definition

module _ (log chosen buf told : List ℕ) where
  -- by the tests, in their order
  asked : (a b : Bool) → Check
  asked a b = cond a (cond b (roomy told told_length) (Err (TooShort 438))) (Err Unsound)

  replied : (a b : Bool) → Reply
  replied a b = cond a (cond b (if_room (defined_by log chosen buf told) buf told) (refuse 11 438 buf told)) (refuse10 buf told)

  unlent : (a b : Bool) {why : section.Refusal} → ◌≡◌ {A = Check} (Err why) (asked a b) → reply (packed_by why 1) buf told ≡ replied a b
  unfolding asked replied packed_by
  unlent true true e = room_short (defined_by log chosen buf told) buf told e
  unlent true false {why} e = let f : why ≡ TooShort 438 = cc in ap (λ y. reply (packed_by y 1) buf told) f ∙ ap (λ n. reply n buf told) (packed_short 438)
  unlent false b {why} e = let f : why ≡ Unsound = cc in ap (λ y. reply (packed_by y 1) buf told) f

  lent : (a b : Bool) {u : Unit {0}} → ◌≡◌ {A = Check} (Ok u) (asked a b) → (told_length ≤ length told) × (replied a b ≡ defined_by log chosen buf told)
  unfolding asked replied
  lent true true e = let h = long_enough told told_length e in (h, sym (room_there (defined_by log chosen buf told) buf told h))
  lent true false e = let z : ◌≡◌ {A = ℕ} 0 1 = cc in absurd (omega arith)
  lent false b e = let z : ◌≡◌ {A = ℕ} 0 1 = cc in absurd (omega arith)

  pub define_unlent : {why : section.Refusal} → ◌≡◌ {A = Check} (Err why) (lent_for chosen buf told) → DefineOwes log chosen buf told (packed_by why 1) buf told
  unfolding define_of lent_for asked replied
  define_unlent e = unlent (are_settings chosen) (leb 438 (length buf)) e

  module _ {u : Unit {0}} (room : ◌≡◌ {A = Check} (Ok u) (lent_for chosen buf told)) where
    pub define_room : told_length ≤ length told
    unfolding lent_for asked
    define_room = (lent (are_settings chosen) (leb 438 (length buf)) {u = u} room).0

    module _ {h : Header} {numbers : Numbers} {rest : Settings} (d : Defined) (e : h ≡ header_of log)
        (f : numbers ≡ numbers_in chosen) (g : rest ≡ settings_in chosen) (is : answer_of d ≡ defined log h.lists numbers rest) where
      by_answer : judged_reply h (answer_of d) buf told ≡ define_of log chosen buf told
      unfolding define_of defined_by lent_for asked replied
      by_answer =
          ap (λ x. judged_reply h x buf told) is
          ∙ (λ i. judged_reply (e i) (defined log (e i).lists (f i) (g i)) buf told)
          ∙ sym (lent (are_settings chosen) (leb 438 (length buf)) {u = u} room).1

      pub define_passed : {v : Unit {0}} {xs buf' told' : List ℕ} → d.verdict ≡ Ok v → buf' ≡ with_definition d.definition buf
          → xs ≡ padded 8 (about_log h d.definition) → told' ≡ sets told 0 (longs xs) → DefineOwes log chosen buf told 0 buf' told'
      unfolding judged_reply defined_reply
      define_passed v put about tell =
          (λ i. reply 0 (put i) (tells (about_log h d.definition) told about tell i))
          ∙ ap (λ f. defined_reply h d.definition f buf told) (sym (ap found v))
          ∙ by_answer

      pub define_refused : {why : Refusal} {p : Paper} {x : ℕ} → d.verdict ≡ Err why → p ≡ paper_of why → x ≡ packed p.number p.place p.round
          → DefineOwes log chosen buf told x buf told
      unfolding judged_reply defined_reply
      define_refused v says r =
          ap (λ n. reply n buf told) (r ∙ ap (λ (y : Paper). packed y.number y.place y.round) says)
          ∙ ap (λ f. defined_reply h d.definition f buf told) (sym (ap found v))
          ∙ by_answer
