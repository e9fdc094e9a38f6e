-- Header numbers and settings as bytes (the layout is this project's own). Numbers of 32 bits, low byte first: at 0 the minimum throttle,
-- 4 the battery reference, 8 the minimum motor, 12 the intra interval, 16 and 20 the numerator and the denominator of the frame interval.
use Rattle.std.specs.Prelude.{ℕ, ◌+◌, ◌%◌, Bool, cond, ◌&&◌, List, [], ◌∷◌, eqb, leb, length, drop}
use Rattle.std.proofs.lemmas.List.Edits.{sets}
use Rattle.plan.specs.declared.Numbers.{Numbers}
use Rattle.plan.specs.declared.Settings.{Settings}
use Rattle.plan.specs.Plan.{number_code, number_of}
use Rattle.octets.specs.Bytes.{words, num32}

abbrev pub settings_length : ℕ
settings_length = 24

-- no more than all of them, and whole ones
unfoldable pub are_settings : List ℕ → Bool
are_settings bs = leb (length bs) settings_length && eqb (length bs % 4) 0

-- ## What is read

-- the number at a place; a stretch that ends before it leaves it at its default
unfoldable pub setting_at : (place default : ℕ) → List ℕ → ℕ
setting_at p x bs = cond (leb (p + 4) (length bs)) (num32 (drop p bs)) x

-- absent by default: whatever needs more than 16 bits is absent
unfoldable pub numbers_in : List ℕ → Numbers
numbers_in bs =
    record {
      min_throttle = number_of (setting_at 0 65536 bs);
      vbat_reference = number_of (setting_at 4 65536 bs);
      min_motor = number_of (setting_at 8 65536 bs);
    }

-- 1, and 1/1, by default
unfoldable pub settings_in : List ℕ → Settings
settings_in bs = record { interval = record { intra = setting_at 12 1 bs; numerator = setting_at 16 1 bs; denominator = setting_at 20 1 bs } }

-- ## What is written

unfoldable pub settings_bytes : Numbers → Settings → List ℕ
settings_bytes n s =
    words
    (number_code n.min_throttle ∷ number_code n.vbat_reference ∷ number_code n.min_motor
    ∷ s.interval.intra ∷ s.interval.numerator ∷ s.interval.denominator ∷ [])

-- in front of a buffer; one that is too short keeps its content
unfoldable pub with_settings : Numbers → Settings → List ℕ → List ℕ
with_settings n s bs = cond (leb settings_length (length bs)) (sets bs 0 (settings_bytes n s)) bs
