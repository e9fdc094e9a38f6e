-- What a log's own header lines say beside its lists: the header numbers, and the intervals I and N/D of intra and inter frames.
use Rattle.std.specs.Prelude.{ℕ, cond, List, Option, Some, None, eqb}
use Rattle.header.specs.Header.{value_of}
use Rattle.items.specs.declared.Stretch.{Stretch}
use Rattle.items.specs.Items.{part}
use Rattle.items.specs.Text.{ascii}
use Rattle.plan.specs.declared.FrameInterval.{FrameInterval}
use Rattle.plan.specs.declared.Numbers.{Numbers}
use Rattle.settings.specs.declared.Ratio.{Ratio}
use Rattle.settings.specs.declared.Said.{Said}
use Rattle.settings.specs.Texts.{header_number_of, first_of_two, whole_of, ratio_of}

abbrev pub said_at : {A : Type 0} (log : List ℕ) → (List ℕ → A) → (without : A) → Option Stretch → A
said_at log says without None = without
said_at log says without (Some s) = says (part log (Some s))

-- what the last header line that begins with a prefix says by the text behind it; where there is no such line, what holds without one
unfoldable pub line_of : {A : Type 0} (log prefix : List ℕ) → (List ℕ → A) → (without : A) → A
line_of log prefix says without = said_at log says without (value_of log prefix)

unfoldable pub numbers_of : List ℕ → Numbers
numbers_of log =
    record {
      min_throttle = line_of log (ascii "H minthrottle:") header_number_of None;
      vbat_reference = line_of log (ascii "H vbatref:") header_number_of None;
      min_motor = line_of log (ascii "H motorOutput:") first_of_two None;
    }

-- no line: 1/1
unfoldable pub inter_of : List ℕ → Ratio
inter_of log = line_of log (ascii "H P interval:") ratio_of (record { numerator = 1; denominator = 1 })

-- no line: 1 where N = D, else 0
unfoldable pub intra_of : (log : List ℕ) (numerator denominator : ℕ) → ℕ
intra_of log n d = line_of log (ascii "H I interval:") whole_of (cond (eqb n d) 1 0)

unfoldable pub interval_of : List ℕ → FrameInterval
interval_of log =
    record {
      intra = intra_of log (inter_of log).numerator (inter_of log).denominator;
      numerator = (inter_of log).numerator;
      denominator = (inter_of log).denominator;
    }

unfoldable pub said_of : List ℕ → Said
said_of log = record { numbers = numbers_of log; interval = interval_of log }
