-- What is written is read again: a definition whose numbers and lists have the sizes of their places, as every definition that a program owns.
use Prim.Native.Nat.{ℕ, ◌+◌, ◌<◌, ◌≤◌}
use mathlib.Core.Bool.{true}
use mathlib.Core.Path.{◌≡◌, refl, sym, ap, ◌∙◌}
use mathlib.Core.List.{List, [], ◌++◌, append_assoc}
use native.Mathlib.Decide.{dec_lt}
use native.Mathlib.Omega.{arith}
use borrow.Author.Tests.{le-leb, eq-eqb}
use mir.Val.{Val}
use denote.Laws.{Is}
use denote.Struct.Declared as declared
use lib.ListN.{length, take, drop, length-append}
use lib.Seq.{sets-eq, drop_at, drop-drop, take_at}
use Rattle.plan.specs.declared.Definition.{Definition}
use Rattle.std.specs.Prelude.{Option, Some, None}
use Rattle.plan.specs.declared.Settings.{Settings}
use Rattle.plan.specs.Plan.{number_code, number_of}
use Rattle.plan.proofs.Codes.{NumberSized, number_code_small, number_of_code}
use Rattle.plan.specs.contracts.Definition as definition
use Rattle.plan.specs.contracts.Numbers as numbers
use Rattle.plan.specs.Sound.{sound}
use Rattle.plan.proofs.Rooms.{MainRooms, main_rooms}
use Rattle.plan.proofs.Sound.{interval_parts, sound_interval}
use Rattle.octets.specs.Bytes.{le32, le64, num64}
use Rattle.octets.proofs.Round.{num_le64}
use Rattle.sizes.specs.Sized.{Is32, Is64}
use Rattle.store.specs.Definition.{fitting, count_bytes, main_bytes, slow_bytes, settings_bytes}
use Rattle.store.specs.Definition.{definition_bytes, with_definition, codes_at, definition_at, is_definition}
use Rattle.store.proofs.Definitions.{SlowLists, slow_lists, number_fits, number_too_large, length_counts, length_main, length_slow, length_settings}

pub record SettingsSized (s : Settings) : Type 0 where
  pub intra : Is32 s.interval.intra
  pub numerator : Is32 s.interval.numerator
  pub denominator : Is32 s.interval.denominator

-- each number has the size of its place, each list its length
pub record DefinitionSized (d : Definition) : Type 0 where
  pub n : Is64 d.main.n
  pub motor : Is64 d.main.motor
  pub slow_n : Is64 d.slow.n
  pub main_lists : MainRooms d.main
  pub slow_lists : SlowLists d.slow
  pub throttle : NumberSized d.numbers.min_throttle
  pub battery : NumberSized d.numbers.vbat_reference
  pub least : NumberSized d.numbers.min_motor
  pub settings : SettingsSized d.settings

-- ## What owning a definition tells: `c.well_formed` has such a part for each parameter

abbrev Owned : (throttle battery least : Option ℕ) → List Val → Type 0
Owned t b m vs = Is (declared.row numbers.the_type) (record { min_throttle = t; vbat_reference = b; min_motor = m }) vs

throttle_sized : (t b m : Option ℕ) {vs : List Val} → Owned t b m vs → NumberSized t
throttle_sized None b m g = tt
throttle_sized (Some v) b m g = g.1.1.0.1.1.1.1.0.1

battery_sized : (t b m : Option ℕ) {vs : List Val} → Owned t b m vs → NumberSized b
battery_sized t None m g = tt
battery_sized t (Some v) m g = g.1.1.1.0.1.1.1.1.0.1

least_sized : (t b m : Option ℕ) {vs : List Val} → Owned t b m vs → NumberSized m
least_sized t b None g = tt
least_sized t b (Some v) g = g.1.1.1.1.0.1.1.1.1.0.1

pub definition_sized : (d : Definition) {vs : List Val} → Is (declared.row definition.the_type) d vs → DefinitionSized d
definition_sized d g =
    record {
      n = g.1.1.0.1.1.0.1;
      motor = g.1.1.0.1.1.1.0.1;
      slow_n = g.1.1.1.0.1.1.0.1;
      main_lists = main_rooms d.main g.1.1.0;
      slow_lists = slow_lists d.slow g.1.1.1.0;
      throttle = throttle_sized d.numbers.min_throttle d.numbers.vbat_reference d.numbers.min_motor g.1.1.1.1.0;
      battery = battery_sized d.numbers.min_throttle d.numbers.vbat_reference d.numbers.min_motor g.1.1.1.1.0;
      least = least_sized d.numbers.min_throttle d.numbers.vbat_reference d.numbers.min_motor g.1.1.1.1.0;
      settings = let v = g.1.1.1.1.1.0.1.1.0 in record { intra = v.1.1.0.1; numerator = v.1.1.1.0.1; denominator = v.1.1.1.1.0.1 };
    }

-- ## Header numbers

-- as it was written, whatever follows
number_kept : (x : Option ℕ) (rest : List ℕ) → NumberSized x → number_of (num64 (le64 (number_code x) ++ rest)) ≡ x
number_kept x rest h = ap number_of (num_le64 (number_code x) rest (let q = number_code_small x h in omega arith)) ∙ number_of_code x h

-- ## Settings

fitting_kept : (v : ℕ) (rest : List ℕ) → Is32 v → fitting (num64 (le64 v ++ rest)) ≡ v
fitting_kept v rest h = ap fitting (num_le64 v rest (omega arith)) ∙ sym (number_fits v h)

-- as they were written, behind m bytes
settings_kept : (s : Settings) (l rest : List ℕ) (m : ℕ) → SettingsSized s → drop m l ≡ settings_bytes s ++ rest
    → ◌≡◌ {A = Settings} (record {
      interval = record { intra = fitting (num64 (drop m l)); numerator = fitting (num64 (drop (m + 8) l)); denominator = fitting (num64 (drop (m + 16) l)) };
    }) s
unfolding settings_bytes le32 le64
settings_kept s l rest m z e =
    let intra = ap (λ x. fitting (num64 x)) e ∙ fitting_kept s.interval.intra _ z.intra in
    let numerator = ap (λ x. fitting (num64 x)) (sym (drop-drop 8 m l) ∙ ap (drop 8) e) ∙ fitting_kept s.interval.numerator _ z.numerator in
    let denominator = ap (λ x. fitting (num64 x)) (sym (drop-drop 16 m l) ∙ ap (drop 16) e) ∙ fitting_kept s.interval.denominator _ z.denominator in
    λ i. record { interval = record { intra = intra i; numerator = numerator i; denominator = denominator i } }

-- a number that is not 0 fits
fitting_some : (c : ℕ) → 1 ≤ fitting c → Is32 c
fitting_some c h = by (dec_lt c 4294967296)
  where
    by : Dec (c < 4294967296) → Is32 c
    by (yes lt) = lt
    by (no ge) = let none : 0 ≡ fitting c = number_too_large c (omega arith) in absurd (omega arith)

-- so bytes whose interval does not fit are no sound definition: 10 refuses it
pub sound_interval_fits : (bs : List ℕ) → sound (definition_at bs) ≡ true
    → Is32 (num64 (drop 414 bs)) × Is32 (num64 (drop 422 bs)) × Is32 (num64 (drop 430 bs))
unfolding definition_at
sound_interval_fits bs h =
    let p = interval_parts _ (sound_interval (definition_at bs) h) in
    (fitting_some (num64 (drop 414 bs)) p.0, fitting_some (num64 (drop 422 bs)) (omega (arith, p)), fitting_some (num64 (drop 430 bs)) (omega (arith, p)))

-- ## All of it

-- k of a list behind m others
behind : (p q r l : List ℕ) (m k : ℕ) → l ≡ p ++ (q ++ r) → length p ≡ m → length q ≡ k → codes_at m k l ≡ q
behind p q r l m k e h i = ap (codes_at m k) e ∙ ap (take k) (drop_at p (q ++ r) m h) ∙ take_at q r k i

definition_kept : (d : Definition) (rest : List ℕ) → DefinitionSized d → definition_at (definition_bytes d ++ rest) ≡ d
unfolding definition_at definition_bytes count_bytes main_bytes slow_bytes le32 le64
definition_kept d rest z =
    let m = d.main in
    let s = d.slow in
    let a = m.intra_predictors in
    let b = m.inter_predictors in
    let c = m.intra_encodings in
    let e = m.inter_encodings in
    let f = m.signs in
    let x = s.predictors in
    let y = s.encodings in
    let u = s.signs in
    let w = settings_bytes d.settings in
    let l = (a ++ b ++ c ++ e ++ f) ++ (x ++ y ++ u) ++ w ++ rest in
    let r = z.main_lists in
    let t = z.slow_lists in
    let one = behind [] a (b ++ c ++ e ++ f ++ x ++ y ++ u ++ w ++ rest) l 0 62 (simp append_assoc) refl r.intra_predictors in
    let two = behind a b (c ++ e ++ f ++ x ++ y ++ u ++ w ++ rest) l 62 62 (simp append_assoc) r.intra_predictors r.inter_predictors in
    let three =
    behind (a ++ b) c (e ++ f ++ x ++ y ++ u ++ w ++ rest) l 124 62 (simp append_assoc) (simp length-append (omega (arith, r))) r.intra_encodings in
    let four =
    behind (a ++ b ++ c) e (f ++ x ++ y ++ u ++ w ++ rest) l 186 62 (simp append_assoc) (simp length-append (omega (arith, r))) r.inter_encodings in
    let five = behind (a ++ b ++ c ++ e) f (x ++ y ++ u ++ w ++ rest) l 248 62 (simp append_assoc) (simp length-append (omega (arith, r))) r.signs in
    let six =
    behind (a ++ b ++ c ++ e ++ f) x (y ++ u ++ w ++ rest) l 310 16 (simp append_assoc) (simp length-append (omega (arith, r))) t.rooms.slow_predictors in
    let seven =
    behind (a ++ b ++ c ++ e ++ f ++ x) y (u ++ w ++ rest) l 326 16 (simp append_assoc) (simp length-append (omega (arith, r, t))) t.rooms.slow_encodings in
    let eight =
    behind (a ++ b ++ c ++ e ++ f ++ x ++ y) u (w ++ rest) l 342 16 (simp append_assoc) (simp length-append (omega (arith, r, t))) t.slow_signs in
    let lists = a ++ b ++ c ++ e ++ f ++ x ++ y ++ u in
    let nine =
    ap (drop 358) (let is : l ≡ lists ++ (w ++ rest) = simp append_assoc in is) ∙ drop_at lists (w ++ rest) 358 (simp length-append (omega (arith, r, t))) in
    let chosen = settings_kept d.settings l rest 358 z.settings nine in
    let n = num_le64 m.n _ z.n in
    let motor = num_le64 m.motor _ z.motor in
    let slow_n = num_le64 s.n _ z.slow_n in
    let throttle = number_kept d.numbers.min_throttle _ z.throttle in
    let battery = number_kept d.numbers.vbat_reference _ z.battery in
    let least = number_kept d.numbers.min_motor _ z.least in
    λ i. record {
      main =
          record {
            n = n i;
            motor = motor i;
            intra_predictors = one i;
            inter_predictors = two i;
            intra_encodings = three i;
            inter_encodings = four i;
            signs = five i;
          };
      slow = record { n = slow_n i; predictors = six i; encodings = seven i; signs = eight i };
      numbers = record { min_throttle = throttle i; vbat_reference = battery i; min_motor = least i };
      settings = chosen i;
    }

-- the version stands first
definition_version : (d : Definition) (rest : List ℕ) → num64 (definition_bytes d ++ rest) ≡ 2
unfolding definition_bytes count_bytes le32 le64
definition_version d rest = num_le64 2 _ (omega arith)

-- ## In a buffer

length_definition : (d : Definition) → DefinitionSized d → length (definition_bytes d) ≡ 438
unfolding definition_bytes
length_definition d z =
    simp length-append
    (omega (arith, length_counts d, length_main d.main z.main_lists, length_slow d.slow z.slow_lists, length_settings d.settings))

module _ (d : Definition) (bs : List ℕ) (z : DefinitionSized d) (h : 438 ≤ length bs) where
  with_definition_law : with_definition d bs ≡ definition_bytes d ++ drop 438 bs
  unfolding with_definition
  with_definition_law =
      let n = length_definition d z in
      let all : 0 + length (definition_bytes d) ≡ 438 = omega arith in
      simp (le-leb _ _ h) (sets-eq (definition_bytes d) bs 0 (omega arith) ∙ ap (λ k. definition_bytes d ++ drop k bs) all)

  pub stored_definition : definition_at (with_definition d bs) ≡ d
  stored_definition = ap definition_at with_definition_law ∙ definition_kept d (drop 438 bs) z

  pub stored_is_definition : is_definition (with_definition d bs) ≡ true
  unfolding is_definition
  stored_is_definition =
      let e = length-append (definition_bytes d) (drop 438 bs) in
      let n = length_definition d z in
      ap is_definition with_definition_law
      ∙ simp (le-leb 438 (length (definition_bytes d ++ drop 438 bs)) (omega arith), eq-eqb _ 2 (definition_version d (drop 438 bs)))
