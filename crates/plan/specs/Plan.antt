-- The views of a definition that later meanings read: what its rooms hold, cut at the counts, and nothing of what lies behind.
use Rattle.std.specs.Prelude.{ℕ, ◌-◌, min, Bool, cond, Option, Some, None, List, map, eqb, ltb, take, replicate}
use Rattle.plan.specs.declared.Definition.{Definition}
use Rattle.plan.specs.declared.FrameInterval.{FrameInterval}
use Rattle.plan.specs.declared.Main.{Main}
use Rattle.plan.specs.declared.Numbers.{Numbers}
use Rattle.plan.specs.declared.Settings.{Settings}
use Rattle.plan.specs.declared.Slow.{Slow}

-- a header number of 16 bits as a number; 65536 where there is none
unfoldable pub number_code : Option ℕ → ℕ
number_code None = 65536
number_code (Some v) = v

-- whatever needs more than 16 bits is none
unfoldable pub number_of : ℕ → Option ℕ
number_of c = cond (ltb c 65536) (Some c) None

-- the fields of a main frame are the items behind `loopIteration` and `time`
abbrev pub fields : Main → ℕ
fields m = m.n - 2

-- where frames end: the encodings of the fields, and whether there are slow frames
pub record Shape : Type 0 where
  pub intra : List ℕ
  pub inter : List ℕ
  pub slow : Option (List ℕ)

unfoldable pub shape : Definition → Shape
shape d =
    record {
      intra = take (fields d.main) d.main.intra_encodings;
      inter = take (fields d.main) d.main.inter_encodings;
      slow = cond (eqb d.slow.n 0) None (Some (take d.slow.n d.slow.encodings));
    }

-- what values are: the predictors of the fields, the place of `motor[0]` among them or their number where it is none of them, the header numbers,
-- how often iterations are logged
pub record Rules : Type 0 where
  pub intra : List ℕ
  pub inter : List ℕ
  pub slow : List ℕ
  pub motor : ℕ
  pub numbers : Numbers
  pub interval : FrameInterval

unfoldable pub rules : Definition → Rules
rules d =
    record {
      intra = take (fields d.main) d.main.intra_predictors;
      inter = take (fields d.main) d.main.inter_predictors;
      slow = take d.slow.n d.slow.predictors;
      motor = min d.main.motor (fields d.main);
      numbers = d.numbers;
      interval = d.settings.interval;
    }

-- all that a definition says: the item counts, the shape, the rules, and which values are shown unsigned
pub record Core : Type 0 where
  pub items : ℕ
  pub slow_items : ℕ
  pub shape : Shape
  pub rules : Rules
  pub unsigned : List Bool
  pub slow_unsigned : List Bool

unfoldable pub core : Definition → Core
core d =
    record {
      items = d.main.n;
      slow_items = d.slow.n;
      shape = shape d;
      rules = rules d;
      unsigned = map (eqb 0) (take (fields d.main) d.main.signs);
      slow_unsigned = map (eqb 0) (take d.slow.n d.slow.signs);
    }

-- no fields, no header numbers, and nothing chosen
abbrev pub no_main : Main
no_main =
    record {
      n = 0;
      motor = 0;
      intra_predictors = replicate 62 0;
      inter_predictors = replicate 62 0;
      intra_encodings = replicate 62 0;
      inter_encodings = replicate 62 0;
      signs = replicate 62 0;
    }

abbrev pub no_slow : Slow
no_slow = record { n = 0; predictors = replicate 16 0; encodings = replicate 16 0; signs = replicate 16 0 }

abbrev pub no_numbers : Numbers
no_numbers = record { min_throttle = None; vbat_reference = None; min_motor = None }

-- every loop iteration is logged: the intra interval 1, and 1/1
abbrev pub plain : Settings
plain = record { interval = record { intra = 1; numerator = 1; denominator = 1 } }

unfoldable pub nothing : Definition
nothing = record { main = no_main; slow = no_slow; numbers = no_numbers; settings = plain }
