-- What the text behind a header line's name says: a number, the first of two, an interval.
-- Header numbers are document 01's ("Predictors", 16 bits), intervals document 02's (request 1); how a line writes them is fixed here.
use Rattle.std.specs.Prelude.{ℕ, ◌+◌, ◌-◌, ◌^◌, cond, List, [], ◌∷◌, Option, Some, None, eqb, ltb, leb, length, take, drop}
use Rattle.std.specs.Option.{option_and_then, unwrap_or}
use Rattle.digits.specs.Digits.{before, decimal_of}
use Rattle.settings.specs.declared.Ratio.{Ratio}

-- behind an optional `+`
unfoldable pub unplussed : List ℕ → List ℕ
unplussed [] = []
unplussed (b ∷ s) = cond (eqb b 43) s (b ∷ s)

abbrev pub up_to : ℕ → Option ℕ → Option ℕ
up_to largest None = None
up_to largest (Some n) = cond (leb n largest) (Some n) None

-- an optional `+`, at least one digit and nothing else, up to the largest
unfoldable pub number_of : (largest : ℕ) → List ℕ → Option ℕ
number_of largest s = up_to largest (decimal_of (unplussed s))

-- before the first b, or all
abbrev pub front : ℕ → List ℕ → List ℕ
front b s = take (before b s) s

-- behind the first b
abbrev pub back : ℕ → List ℕ → List ℕ
back b s = drop (before b s + 1) s

-- ## Header numbers

-- at most 65535; what cannot be read is absent
unfoldable pub header_number_of : List ℕ → Option ℕ
header_number_of s = number_of 65535 s

-- two numbers parted by a comma, both readable: the first counts
unfoldable pub first_of_two : List ℕ → Option ℕ
first_of_two s = option_and_then (λ n. header_number_of (front 44 s)) (header_number_of (back 44 s))

-- ## Intervals

-- at most 32 bits
unfoldable pub number32 : List ℕ → Option ℕ
number32 s = number_of (2 ^ 32 - 1) s

-- what cannot be read is 0
unfoldable pub whole_of : List ℕ → ℕ
whole_of s = unwrap_or (number32 s) 0

-- both numbers have to be readable: a half-read interval must not pass for another
abbrev pub fraction_of : (numerator denominator : Option ℕ) → Option Ratio
fraction_of None d = None
fraction_of (Some n) None = None
fraction_of (Some n) (Some d) = Some (record { numerator = n; denominator = d })

-- what cannot be read is 0/0
abbrev pub over : (numerator denominator : Option ℕ) → Ratio
over n d = unwrap_or (fraction_of n d) (record { numerator = 0; denominator = 0 })

-- `N/D`, or `D` alone for 1/D
unfoldable pub ratio_of : List ℕ → Ratio
ratio_of s = cond (ltb (before 47 s) (length s)) (over (number32 (front 47 s)) (number32 (back 47 s))) (over (Some 1) (number32 s))
