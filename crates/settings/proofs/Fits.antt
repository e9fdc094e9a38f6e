-- What is told fits its place: header numbers 16 bits, intervals 32.
use Prim.Native.Nat.{ℕ, ◌-◌, ◌^◌, ◌<◌, ◌≤◌}
use mathlib.Core.Bool.{Bool, true, false, cond}
use mathlib.Core.List.{List}
use mathlib.Core.Path.{◌≡◌, refl}
use native.Mathlib.Omega.{arith}
use lib.Dec.{eqb, ltb}
use lib.ListN.{length}
use Rattle.std.specs.Prelude.{Option, Some, None}
use Rattle.std.specs.Option.{option_and_then, unwrap_or}
use Rattle.digits.specs.Digits.{before}
use Rattle.header.specs.Header.{value_of}
use Rattle.items.specs.declared.Stretch.{Stretch}
use Rattle.items.specs.Items.{part}
use Rattle.items.specs.Text.{ascii}
use Rattle.plan.specs.declared.FrameInterval.{FrameInterval}
use Rattle.plan.specs.declared.Numbers.{Numbers}
use Rattle.settings.specs.declared.Ratio.{Ratio}
use Rattle.settings.specs.Said.{said_at, line_of, numbers_of, inter_of, intra_of, interval_of, said_of}
use Rattle.settings.specs.Texts.{number_of, front, back, header_number_of, first_of_two}
use Rattle.settings.specs.Texts.{number32, whole_of, over, ratio_of}
use Rattle.settings.proofs.Texts.{number_le}

-- what holds of every text and without one holds of what a line says
module _ {A : Type 0} (Holds : A → Type 0) (says : List ℕ → A) (without : A) (of : (s : List ℕ) → Holds (says s)) (else : Holds without) where
  said_holds : (log : List ℕ) (s : Option Stretch) → Holds (said_at log says without s)
  said_holds log None = else
  said_holds log (Some s) = of (part log (Some s))

  line_holds : (log prefix : List ℕ) → Holds (line_of log prefix says without)
  unfolding line_of
  line_holds log prefix = said_holds log (value_of log prefix)

-- ## 16 bits

abbrev pub Small : Option ℕ → Type 0
Small None = Unit
Small (Some n) = n ≤ 65535

given_small : (s : List ℕ) (x : Option ℕ) → x ≡ number_of 65535 s → Small x
given_small s None e = tt
given_small s (Some n) e = number_le 65535 s e

header_small : (s : List ℕ) → Small (header_number_of s)
unfolding header_number_of
header_small s = given_small s (number_of 65535 s) refl

first_small : (first second : Option ℕ) → Small first → Small (option_and_then (λ n. first) second)
first_small first None h = tt
first_small first (Some n) h = h

two_small : (s : List ℕ) → Small (first_of_two s)
unfolding first_of_two
two_small s = first_small (header_number_of (front 44 s)) (header_number_of (back 44 s)) (header_small (front 44 s))

pub numbers_fit : (log : List ℕ)
    → let n : Numbers = (said_of log).numbers in Small n.min_throttle × Small n.vbat_reference × Small n.min_motor
unfolding said_of numbers_of
numbers_fit log = (
  line_holds Small header_number_of None header_small tt log (ascii "H minthrottle:"),
  line_holds Small header_number_of None header_small tt log (ascii "H vbatref:"),
  line_holds Small first_of_two None two_small tt log (ascii "H motorOutput:"),
)

-- ## 32 bits

number_fits : (s : List ℕ) (x : Option ℕ) → x ≡ number32 s → unwrap_or x 0 < 2 ^ 32
unfolding number32
number_fits s None e = omega arith
number_fits s (Some n) e = omega (arith, number_le (2 ^ 32 - 1) s e)

whole_fits : (s : List ℕ) → whole_of s < 2 ^ 32
unfolding whole_of
whole_fits s = number_fits s (number32 s) refl

abbrev Fits : Ratio → Type 0
Fits i = (i.numerator < 2 ^ 32) × (i.denominator < 2 ^ 32)

over_fits : (n d : Option ℕ) → unwrap_or n 0 < 2 ^ 32 → unwrap_or d 0 < 2 ^ 32 → Fits (over n d)
over_fits None d h g = omega arith
over_fits (Some n) None h g = omega arith
over_fits (Some n) (Some d) h g = omega arith

either_fits : (q : Bool) (x y : Ratio) → Fits x → Fits y → Fits (cond q x y)
either_fits true x y h g = h
either_fits false x y h g = g

ratio_fits : (s : List ℕ) → Fits (ratio_of s)
unfolding ratio_of
ratio_fits s =
    let fits : (t : List ℕ) → unwrap_or (number32 t) 0 < 2 ^ 32 = λ t. number_fits t (number32 t) refl in
    either_fits (ltb (before 47 s) (length s)) (over (number32 (front 47 s)) (number32 (back 47 s))) (over (Some 1) (number32 s))
    (over_fits (number32 (front 47 s)) (number32 (back 47 s)) (fits (front 47 s)) (fits (back 47 s)))
    (over_fits (Some 1) (number32 s) (omega arith) (fits s))

one_or_none : (q : Bool) → cond q 1 0 < 2 ^ 32
one_or_none true = omega arith
one_or_none false = omega arith

intra_fits : (log : List ℕ) (n d : ℕ) → intra_of log n d < 2 ^ 32
unfolding intra_of
intra_fits log n d = line_holds (λ i. i < 2 ^ 32) whole_of (cond (eqb n d) 1 0) whole_fits (one_or_none (eqb n d)) log (ascii "H I interval:")

inter_fits : (log : List ℕ) → Fits (inter_of log)
unfolding inter_of
inter_fits log = line_holds Fits ratio_of (record { numerator = 1; denominator = 1 }) ratio_fits (omega arith) log (ascii "H P interval:")

pub interval_fits : (log : List ℕ)
    → let i : FrameInterval = (said_of log).interval in (i.intra < 2 ^ 32) × (i.numerator < 2 ^ 32) × (i.denominator < 2 ^ 32)
unfolding said_of interval_of
interval_fits log = (intra_fits log (inter_of log).numerator (inter_of log).denominator, (inter_fits log).0, (inter_fits log).1)
