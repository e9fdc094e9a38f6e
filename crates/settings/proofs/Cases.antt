-- What some header lines say, by computation.
use Prim.Native.Nat.{ℕ}
use Prim.Native.String.{String}
use mathlib.Core.List.{List, [], ◌∷◌, map}
use mathlib.Core.Path.{◌≡◌, refl}
use Rattle.header.specs.Header.{newer, last_from, value_of}
use Rattle.header.specs.Lines.{lines, bare, begins, headers}
use Rattle.items.specs.Items.{given, part}
use Rattle.items.specs.Text.{ascii}
use Rattle.std.specs.Prelude.{Option, Some, None}
use Rattle.digits.specs.Digits.{before, digits, value_from, written, decimal_of}
use Rattle.settings.specs.declared.Said.{Said}
use Rattle.settings.specs.Said.{line_of, numbers_of, inter_of, intra_of, interval_of, said_of}
use Rattle.settings.specs.Texts.{number_of, unplussed, header_number_of, first_of_two, number32, whole_of, ratio_of}

-- a log, and what it is to say: minimum throttle, battery reference, minimum motor; I, N, D
pub record Case : Type 0 where
  pub log : String
  pub said : Said

abbrev pub says : (throttle battery motor : Option ℕ) (intra numerator denominator : ℕ) → String → Case
says t b m i n d log =
    record {
      log = log;
      said =
          record {
            numbers = record { min_throttle = t; vbat_reference = b; min_motor = m };
            interval = record { intra = i; numerator = n; denominator = d };
          };
    }

-- one header number and every iteration logged; the intervals alone
abbrev pub throttle : Option ℕ → String → Case
throttle n = says n None None 1 1 1

abbrev pub motor : Option ℕ → String → Case
motor n = says None None n 1 1 1

abbrev pub every : (intra numerator denominator : ℕ) → String → Case
every = says None None None

abbrev pub cases : List Case
cases =
    every 1 1 1 ""
    -- all five lines, and a carriage return, which is part of a value
    ∷ says (Some 1150) (Some 4095) (Some 158) 32 1 2 "H minthrottle:1150\nH vbatref:4095\nH motorOutput:158,2047\nH I interval:32\nH P interval:1/2\n"
    ∷ throttle None "H minthrottle:1150\r\n"
    -- the last line counts, readable or not; a line without its line feed; lines behind the header are none
    ∷ throttle None "H minthrottle:1150\nH minthrottle:x\n"
    ∷ throttle (Some 7) "H minthrottle:x\nH minthrottle:+7"
    ∷ throttle (Some 7) "H minthrottle:7\nI\nH minthrottle:8\n"
    -- 16 bits; a `+` alone; two; zeros in front
    ∷ throttle (Some 65535) "H minthrottle:65535\n"
    ∷ throttle None "H minthrottle:65536\n"
    ∷ throttle None "H minthrottle:+\n"
    ∷ throttle None "H minthrottle:++1\n"
    ∷ throttle (Some 1) "H minthrottle:00000000000000000000000000000001\n"
    -- two numbers, both readable
    ∷ motor None "H motorOutput:158\n"
    ∷ motor None "H motorOutput:158,\n"
    ∷ motor None "H motorOutput:158,2047,1\n"
    ∷ motor (Some 158) "H motorOutput:158,+2047\n"
    -- an interval without the other line
    ∷ every 0 1 2 "H P interval:1/2\n"
    ∷ every 1 2 2 "H P interval:2/2\n"
    ∷ every 32 1 1 "H I interval:32\n"
    -- D alone; what cannot be read, or is over 32 bits
    ∷ every 32 1 2 "H I interval:32\nH P interval:2\n"
    ∷ every 1 0 0 "H P interval:\n"
    ∷ every 0 0 0 "H I interval:-1\nH P interval:1/2/3\n"
    ∷ every 1 1 1 "H I interval:+1\nH P interval:1/+1\n"
    ∷ every 4294967295 1 1 "H I interval:4294967295\n"
    ∷ every 0 0 0 "H I interval:4294967296\nH P interval:1/4294967296\n"
    ∷ []

-- each log says what stands beside it
pub cases_said : map (λ (c : Case). said_of (ascii c.log)) cases ≡ map (λ (c : Case). c.said) cases
unfolding
    newer last_from value_of lines bare begins headers given part before digits value_from written decimal_of number_of unplussed header_number_of first_of_two
    number32 whole_of ratio_of line_of numbers_of inter_of intra_of interval_of said_of
cases_said = refl
