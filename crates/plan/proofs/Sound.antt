-- A sound definition, made of its parts, and the parts of a sound definition.
use Prim.Native.Nat.{ℕ, ◌≤◌}
use mathlib.Core.Bool.{Bool, true, false, ◌&&◌, false≢true, and-eq-true_iff}
use mathlib.Core.List.{List}
use mathlib.Core.Path.{◌≡◌, refl}
use lib.Dec.{leb}
use lib.ListN.{take}
use borrow.Author.Tests.{le-leb, leb-true, eqb-true}
use Rattle.plan.specs.declared.Definition.{Definition}
use Rattle.plan.specs.declared.FrameInterval.{FrameInterval}
use Rattle.plan.specs.declared.Main.{Main}
use Rattle.std.specs.Prelude.{Option, Some, None}
use Rattle.std.specs.Option.{is_none}
use Rattle.plan.specs.declared.Numbers.{Numbers}
use Rattle.plan.specs.declared.Slow.{Slow}
use Rattle.plan.specs.Plan.{fields, nothing}
use Rattle.plan.specs.Sound.{known, unmet_from, unmet_main, unmet_slow, sound_fields, sound_main, sound_slow, is_interval, sound}

-- whether the codes of the first k fields are known
abbrev pub intra_known : Main → ℕ → Bool
intra_known m k = known (take k m.intra_predictors) (take k m.intra_encodings)

abbrev pub inter_known : Main → ℕ → Bool
inter_known m k = known (take k m.inter_predictors) (take k m.inter_encodings)

abbrev pub slow_known : Slow → ℕ → Bool
slow_known s k = known (take k s.predictors) (take k s.encodings)

all_met : (need : Option ℕ) → is_none need ≡ true → need ≡ None
all_met None e = refl
all_met (Some i) e = absurd (false≢true e)

all_three : (a b c : Bool) → (a && (b && c)) ≡ true → (a ≡ true) × (b ≡ true) × (c ≡ true)
all_three true true c e = (refl, refl, e)
all_three true false c e = absurd (false≢true e)
all_three false b c e = absurd (false≢true e)

-- ## Fields of one kind

module _ (rooms : ℕ) (numbers : Numbers) (motor n : ℕ) (ps es : List ℕ) where
  -- its parts
  module _ (h : sound_fields rooms numbers motor n ps es ≡ true) where
    fields_parts : (leb n rooms ≡ true) × (known ps es ≡ true) × (is_none (unmet_from numbers motor 0 ps ps) ≡ true)
    fields_parts = all_three _ _ _ h

    pub fields_few : n ≤ rooms
    fields_few = leb-true n rooms fields_parts.0

    pub fields_known : known ps es ≡ true
    fields_known = fields_parts.1

    pub fields_met : unmet_from numbers motor 0 ps ps ≡ None
    fields_met = all_met (unmet_from numbers motor 0 ps ps) fields_parts.2

-- ## Main frames

module _ (m : Main) (numbers : Numbers) where
  pub main_sound_made : fields m ≤ 62 → intra_known m (fields m) ≡ true → inter_known m (fields m) ≡ true → unmet_main m numbers ≡ None
      → sound_main m numbers ≡ true
  unfolding sound_main
  main_sound_made h p q r = rw (le-leb (fields m) 62 h, p, q, r)

  -- its parts
  module _ (h : sound_main m numbers ≡ true) where
    main_parts : (leb (fields m) 62 ≡ true) × (intra_known m (fields m) ≡ true) × ((inter_known m (fields m) && is_none (unmet_main m numbers)) ≡ true)
    unfolding sound_main
    main_parts = all_three _ _ _ h

    main_last : (inter_known m (fields m) ≡ true) × (is_none (unmet_main m numbers) ≡ true)
    main_last = (and-eq-true_iff _ _).0 main_parts.2

    pub main_fields : fields m ≤ 62
    main_fields = leb-true (fields m) 62 main_parts.0

    pub main_intra : intra_known m (fields m) ≡ true
    main_intra = main_parts.1

    pub main_inter : inter_known m (fields m) ≡ true
    main_inter = main_last.0

    pub main_met : unmet_main m numbers ≡ None
    main_met = all_met (unmet_main m numbers) main_last.1

-- ## Slow frames

module _ (s : Slow) (numbers : Numbers) where
  pub slow_sound_made : s.n ≤ 16 → slow_known s s.n ≡ true → unmet_slow s numbers ≡ None → sound_slow s numbers ≡ true
  unfolding sound_slow unmet_slow
  slow_sound_made h p q = rw (le-leb s.n 16 h, p, q)

  -- its parts
  module _ (h : sound_slow s numbers ≡ true) where
    pub slow_fields_law : s.n ≤ 16
    unfolding sound_slow
    slow_fields_law = fields_few 16 numbers s.n s.n _ _ h

    pub slow_known_law : slow_known s s.n ≡ true
    unfolding sound_slow
    slow_known_law = fields_known 16 numbers s.n s.n _ _ h

    pub slow_met : unmet_slow s numbers ≡ None
    unfolding sound_slow unmet_slow
    slow_met = fields_met 16 numbers s.n s.n _ _ h

-- ## The interval

module _ (v : FrameInterval) where
  pub interval_parts : is_interval v ≡ true → (1 ≤ v.intra) × (v.numerator ≡ 1) × (v.denominator ≡ 1)
  unfolding is_interval
  interval_parts h = let p = all_three _ _ _ h in (leb-true 1 v.intra p.0, eqb-true v.numerator 1 p.1, eqb-true v.denominator 1 p.2)

-- ## The whole

module _ (d : Definition) where
  pub sound_made : sound_main d.main d.numbers ≡ true → sound_slow d.slow d.numbers ≡ true → is_interval d.settings.interval ≡ true
      → sound d ≡ true
  unfolding sound
  sound_made p q r = rw (p, q, r)

  sound_parts : sound d ≡ true
      → (sound_main d.main d.numbers ≡ true) × (sound_slow d.slow d.numbers ≡ true) × (is_interval d.settings.interval ≡ true)
  unfolding sound
  sound_parts h = all_three _ _ _ h

  pub sound_main_law : sound d ≡ true → sound_main d.main d.numbers ≡ true
  sound_main_law h = (sound_parts h).0

  pub sound_slow_law : sound d ≡ true → sound_slow d.slow d.numbers ≡ true
  sound_slow_law h = (sound_parts h).1

  pub sound_interval : sound d ≡ true → is_interval d.settings.interval ≡ true
  sound_interval h = (sound_parts h).2

-- a definition with no fields is sound
pub nothing_sound : sound nothing ≡ true
unfolding nothing sound sound_main sound_slow unmet_main unmet_slow unmet_from known is_interval
nothing_sound = refl
