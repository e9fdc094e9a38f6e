-- A definition as 438 bytes (the layout is this project's own). Numbers of 64 bits, low byte first, at 0 the layout's version,
-- 8 the items of the main lists, 16 the place of `motor[0]`, 24 the items of the slow lists, 32, 40 and 48 the header numbers; then a byte a room:
-- 5 lists of 62 from 56 on, 3 of 16 from 366 on; then numbers again: 414 the intra interval, 422 / 430 the interval.
use Rattle.std.specs.Prelude.{ℕ, Bool, cond, Option, Some, None, ◌&&◌, List, ◌++◌, eqb, ltb, leb, length, take, drop}
use Rattle.std.proofs.lemmas.List.Edits.{sets}
use Rattle.plan.specs.declared.Definition.{Definition}
use Rattle.plan.specs.declared.Main.{Main}
use Rattle.plan.specs.declared.Settings.{Settings}
use Rattle.plan.specs.declared.Slow.{Slow}
use Rattle.plan.specs.Plan.{number_code, number_of}
use Rattle.octets.specs.Bytes.{le64, num64}

abbrev pub definition_version : ℕ
definition_version = 2

abbrev pub definition_length : ℕ
definition_length = 438

-- a number of 32 bits; whatever needs more is 0, which no interval has
unfoldable pub fitting : ℕ → ℕ
fitting c = cond (ltb c 4294967296) c 0

-- ## What is written

unfoldable pub count_bytes : Definition → List ℕ
count_bytes d =
    le64 definition_version
    ++ le64 d.main.n
    ++ le64 d.main.motor
    ++ le64 d.slow.n
    ++ le64 (number_code d.numbers.min_throttle)
    ++ le64 (number_code d.numbers.vbat_reference)
    ++ le64 (number_code d.numbers.min_motor)

unfoldable pub main_bytes : Main → List ℕ
main_bytes m = m.intra_predictors ++ m.inter_predictors ++ m.intra_encodings ++ m.inter_encodings ++ m.signs

unfoldable pub slow_bytes : Slow → List ℕ
slow_bytes s = s.predictors ++ s.encodings ++ s.signs

unfoldable pub settings_bytes : Settings → List ℕ
settings_bytes s = le64 s.interval.intra ++ le64 s.interval.numerator ++ le64 s.interval.denominator

unfoldable pub definition_bytes : Definition → List ℕ
definition_bytes d = count_bytes d ++ main_bytes d.main ++ slow_bytes d.slow ++ settings_bytes d.settings

-- in front of a buffer; one that is too short keeps its content
unfoldable pub with_definition : Definition → List ℕ → List ℕ
with_definition d bs = cond (leb definition_length (length bs)) (sets bs 0 (definition_bytes d)) bs

-- ## What is read

-- a list of k codes from a place on
abbrev pub codes_at : (place k : ℕ) → List ℕ → List ℕ
codes_at p k bs = take k (drop p bs)

unfoldable pub definition_at : List ℕ → Definition
definition_at bs =
    record {
      main =
          record {
            n = num64 (drop 8 bs);
            motor = num64 (drop 16 bs);
            intra_predictors = codes_at 56 62 bs;
            inter_predictors = codes_at 118 62 bs;
            intra_encodings = codes_at 180 62 bs;
            inter_encodings = codes_at 242 62 bs;
            signs = codes_at 304 62 bs;
          };
      slow =
          record {
            n = num64 (drop 24 bs);
            predictors = codes_at 366 16 bs;
            encodings = codes_at 382 16 bs;
            signs = codes_at 398 16 bs;
          };
      numbers =
          record {
            min_throttle = number_of (num64 (drop 32 bs));
            vbat_reference = number_of (num64 (drop 40 bs));
            min_motor = number_of (num64 (drop 48 bs));
          };
      settings =
          record {
            interval =
                record {
                  intra = fitting (num64 (drop 414 bs));
                  numerator = fitting (num64 (drop 422 bs));
                  denominator = fitting (num64 (drop 430 bs));
                };
          };
    }

-- long enough, and of this version: bytes behind it are not looked at
unfoldable pub is_definition : List ℕ → Bool
is_definition bs = leb definition_length (length bs) && eqb (num64 bs) definition_version

unfoldable pub taken_definition : List ℕ → Option Definition
taken_definition bs = cond (is_definition bs) (Some (definition_at bs)) None
