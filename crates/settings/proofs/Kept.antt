-- Settings as bytes: the ways through the code, and that what is written is read again.
use Prim.Native.Nat.{ℕ, ◌+◌, ◌<◌, ◌≤◌, ◌%◌}
use mathlib.Core.Bool.{Bool, true, false, cond}
use mathlib.Core.List.{List, [], ◌∷◌, ◌++◌, append-nil}
use mathlib.Core.Path.{◌≡◌, refl, sym, ap, ◌∙◌}
use native.Mathlib.Omega.{arith}
use lib.Dec.{eqb, ltb, leb}
use lib.ListN.{length, drop}
use lib.Seq.{sets, sets-eq, drop-length}
use borrow.Author.Tests.{le-leb, lt-leb, ltb-true}
use Rattle.std.specs.Prelude.{Option, Some, None}
use Rattle.plan.specs.declared.Numbers.{Numbers}
use Rattle.plan.specs.declared.Settings.{Settings}
use Rattle.plan.specs.Plan.{number_code, number_of, no_numbers, plain}
use Rattle.octets.specs.Bytes.{le32, words, num32}
use Rattle.plan.proofs.Codes.{NumberSized, number_code_small, number_of_code}
use Rattle.octets.proofs.Round.{num_le, Bytes, bytes_drop, num32_small}
use Rattle.settings.specs.Said.{said_of}
use Rattle.settings.specs.Stored.{are_settings, setting_at, numbers_in, settings_in, settings_bytes, with_settings}
use Rattle.settings.proofs.Fits.{Small, numbers_fit, interval_fits}

-- ## What is read

pub too_long : (bs : List ℕ) → 24 < length bs → false ≡ are_settings bs
unfolding are_settings
too_long bs h = simp (lt-leb _ _ h)

pub whole_numbers : (bs : List ℕ) → length bs ≤ 24 → eqb (length bs % 4) 0 ≡ are_settings bs
unfolding are_settings
whole_numbers bs h = simp (le-leb _ _ h)

pub setting_lacking : (p x : ℕ) (bs : List ℕ) → length bs < p + 4 → x ≡ setting_at p x bs
unfolding setting_at
setting_lacking p x bs h = simp (lt-leb _ _ h)

pub setting_there : (p x : ℕ) (bs : List ℕ) {r : ℕ} → r ≡ num32 (drop p bs) → p + 4 ≤ length bs → r ≡ setting_at p x bs
unfolding setting_at
setting_there p x bs e h = e ∙ simp (le-leb _ _ h)

module _ (bs : List ℕ) where
  pub settings_in_law : {a b c : ℕ} → a ≡ setting_at 12 1 bs → b ≡ setting_at 16 1 bs → c ≡ setting_at 20 1 bs
      → ◌≡◌ {A = Settings} (record { interval = record { intra = a; numerator = b; denominator = c } }) (settings_in bs)
  unfolding settings_in
  settings_in_law a b c = λ i. record { interval = record { intra = a i; numerator = b i; denominator = c i } }

  pub numbers_in_law : {x y z : ℕ} {a b c : Option ℕ} → x ≡ setting_at 0 65536 bs → a ≡ number_of x → y ≡ setting_at 4 65536 bs → b ≡ number_of y
      → z ≡ setting_at 8 65536 bs → c ≡ number_of z
      → ◌≡◌ {A = Numbers} (record { min_throttle = a; vbat_reference = b; min_motor = c }) (numbers_in bs)
  unfolding numbers_in
  numbers_in_law x a y b z c =
      λ i. record { min_throttle = (a ∙ ap number_of x) i; vbat_reference = (b ∙ ap number_of y) i; min_motor = (c ∙ ap number_of z) i }

-- no bytes choose nothing
pub nothing_chosen : (are_settings [] ≡ true) × (numbers_in [] ≡ no_numbers) × (settings_in [] ≡ plain)
unfolding are_settings numbers_in settings_in setting_at number_of
nothing_chosen = (refl, refl, refl)

-- ## What is written

pub put_all : (n : Numbers) (s : Settings) (bs : List ℕ) {b : List ℕ} {x y z : ℕ} → x ≡ number_code n.min_throttle → y ≡ number_code n.vbat_reference
    → z ≡ number_code n.min_motor
    → b ≡ sets bs 0 (words (x ∷ y ∷ z ∷ s.interval.intra ∷ s.interval.numerator ∷ s.interval.denominator ∷ []))
    → 24 ≤ length bs → b ≡ with_settings n s bs
unfolding with_settings settings_bytes
put_all n s bs x y z e h =
    e ∙ (λ i. sets bs 0 (words (x i ∷ y i ∷ z i ∷ s.interval.intra ∷ s.interval.numerator ∷ s.interval.denominator ∷ []))) ∙ simp (le-leb _ _ h)

pub put_short : (n : Numbers) (s : Settings) (bs : List ℕ) → length bs < 24 → bs ≡ with_settings n s bs
unfolding with_settings
put_short n s bs h = simp (lt-leb _ _ h)

-- ## What is written is read again

-- numbers of the sizes of their places, as all that a program owns
pub record Sized (n : Numbers) (s : Settings) : Type 0 where
  pub throttle : NumberSized n.min_throttle
  pub battery : NumberSized n.vbat_reference
  pub least : NumberSized n.min_motor
  pub intra : s.interval.intra < 4294967296
  pub numerator : s.interval.numerator < 4294967296
  pub denominator : s.interval.denominator < 4294967296

number_kept : (x : Option ℕ) (rest : List ℕ) → NumberSized x → number_of (num32 (le32 (number_code x) ++ rest)) ≡ x
number_kept x rest h = ap number_of (num_le (number_code x) rest (let q = number_code_small x h in omega arith)) ∙ number_of_code x h

-- what is read out of bytes has them
number_of_sized : (n : ℕ) → NumberSized (number_of n)
unfolding number_of
number_of_sized n = by (ltb n 65536) refl
  where
    by : (t : Bool) → ltb n 65536 ≡ t → NumberSized (cond t (Some n) None)
    by true e = ltb-true n 65536 e
    by false e = tt

setting_small : (p x : ℕ) (bs : List ℕ) → Bytes bs → x < 4294967296 → setting_at p x bs < 4294967296
unfolding setting_at
setting_small p x bs b h = by (leb (p + 4) (length bs))
  where
    by : (t : Bool) → cond t (num32 (drop p bs)) x < 4294967296
    by true = num32_small (drop p bs) (bytes_drop p bs b)
    by false = h

pub chosen_sized : (bs : List ℕ) → Bytes bs → Sized (numbers_in bs) (settings_in bs)
unfolding numbers_in settings_in
chosen_sized bs b =
    record {
      throttle = number_of_sized (setting_at 0 65536 bs);
      battery = number_of_sized (setting_at 4 65536 bs);
      least = number_of_sized (setting_at 8 65536 bs);
      intra = setting_small 12 1 bs b (omega arith);
      numerator = setting_small 16 1 bs b (omega arith);
      denominator = setting_small 20 1 bs b (omega arith);
    }

-- and so has what a log says
small_sized : (x : Option ℕ) → Small x → NumberSized x
small_sized None h = tt
small_sized (Some v) h = omega (arith, h)

pub said_sized : (log : List ℕ) → Sized (said_of log).numbers (record { interval = (said_of log).interval })
said_sized log =
    let n = numbers_fit log in
    let i = interval_fits log in
    record {
      throttle = small_sized (said_of log).numbers.min_throttle n.0;
      battery = small_sized (said_of log).numbers.vbat_reference n.1;
      least = small_sized (said_of log).numbers.min_motor n.2;
      intra = i.0;
      numerator = i.1;
      denominator = i.2;
    }

module _ (n : Numbers) (s : Settings) where
  pub are_settings_kept : are_settings (settings_bytes n s) ≡ true
  unfolding are_settings settings_bytes le32
  are_settings_kept = refl

  module _ (z : Sized n s) where
    pub numbers_kept : numbers_in (settings_bytes n s) ≡ n
    unfolding numbers_in setting_at settings_bytes le32
    numbers_kept =
        let throttle = number_kept n.min_throttle _ z.throttle in
        let battery = number_kept n.vbat_reference _ z.battery in
        let least = number_kept n.min_motor _ z.least in
        λ i. record { min_throttle = throttle i; vbat_reference = battery i; min_motor = least i }

    pub settings_kept : settings_in (settings_bytes n s) ≡ s
    unfolding settings_in setting_at settings_bytes le32
    settings_kept =
        let intra = num_le s.interval.intra _ z.intra in
        let numerator = num_le s.interval.numerator _ z.numerator in
        let denominator = num_le s.interval.denominator [] z.denominator in
        λ i. record { interval = record { intra = intra i; numerator = numerator i; denominator = denominator i } }

  -- a buffer of just their length holds nothing else
  pub with_settings_law : (bs : List ℕ) → length bs ≡ 24 → with_settings n s bs ≡ settings_bytes n s
  unfolding with_settings settings_bytes le32
  with_settings_law bs e =
      let nothing_left = ap (λ k. drop k bs) (sym e) ∙ drop-length bs in
      simp (le-leb 24 (length bs) (omega arith))
      (sets-eq (settings_bytes n s) bs 0 (omega arith) ∙ ap (λ l. settings_bytes n s ++ l) nothing_left ∙ append-nil (settings_bytes n s))
